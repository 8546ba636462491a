use Rattle.std.proofs.Common.{sym, ap, ◌∙◌}
use Rattle.std.specs.Prelude.{position}
use Rattle.std.specs.Str.{bytes_eq}
use Rattle.model_reader.proofs.Mapped.{position-map}
use Rattle.model_reader.proofs.names.Names.place_of.Goals as goal

pub returns : goal.returns
returns c =
    let mapped = position-map c.self.inside.texts.keys (λ text. text.items) (bytes_eq c.args.text.now) in
    c.get_index_of.ensures.index ∙ sym mapped ∙ ap (position (bytes_eq c.args.text.now)) c.self.view_is
