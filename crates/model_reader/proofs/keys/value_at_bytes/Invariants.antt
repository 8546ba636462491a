use Rattle.std.proofs.Common.{◌≡◌}
use Rattle.toml.specs.Data.{get_member}
use Rattle.toml.specs.View.{members_view, table_view}
use Rattle.model_reader.proofs.keys.value_at_bytes.Given as goal

-- no key so far is the wanted one
abbrev pub invariant-loop-found : goal.invariant-loop-found
invariant-loop-found l = get_member l.key (table_view l.table) ≡ get_member l.key (members_view l.found-iterator)
