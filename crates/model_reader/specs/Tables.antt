-- Lists of borrowed texts and tables, and the names of groups.
use Rattle.std.specs.Prelude.{ℕ, List, map}
use Rattle.std.specs.Borrow.{Bor}
use Rattle.std.specs.BTreeMap.{BTreeMap}
use Rattle.std.specs.Prelude.{String}
use Rattle.std.specs.declared.alloc.Global.{Global}
use Rattle.toml.specs.Data.{Members}
use Rattle.toml.specs.View.{table_view}
use Rattle.toml.specs.declared.value.Value.{Value}

-- the texts that references point to
abbrev pub texts : List (Bor (List ℕ)) → List (List ℕ)
texts words = map (λ (w : Bor (List ℕ)). w.now) words

-- the tables that references point to
abbrev pub table_views : List (Bor (BTreeMap (String Global) Value)) → List Members
table_views references = map (λ (t : Bor (BTreeMap (String Global) Value)). table_view t.now) references
