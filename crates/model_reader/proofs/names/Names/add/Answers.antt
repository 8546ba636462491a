use Rattle.std.proofs.Common.{sym, ap, ◌∙◌}
use Rattle.std.specs.Prelude.{not}
use Rattle.std.specs.List.{list_any}
use Rattle.std.specs.Str.{bytes_eq}
use Rattle.model_core.proofs.ListLaws.{list_any_map}
use Rattle.model_reader.proofs.names.Names.add.Goals as goal

pub returns-clause-added : goal.returns-clause-added
returns-clause-added c =
    let own = c.in_ok-text.text.items in
    let mapped = list_any_map c.self.inside.texts.keys (λ text. text.items) (bytes_eq own) in
    let of_own = sym mapped ∙ ap (list_any (bytes_eq own)) c.self.view_is in
    let of_name = ap (λ text. list_any (bytes_eq text) c.args.self.now) (c.in_ok-text.ensures.items ∙ c.as_bytes.ensures.value) in
    c.in_ok-added.ensures.added ∙ ap not (of_own ∙ of_name)
