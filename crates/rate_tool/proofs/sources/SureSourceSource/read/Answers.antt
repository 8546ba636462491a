use Rattle.std.proofs.Common.{◌≡◌, min, drop, take, length, ap, sym, ◌∙◌, arith}
use Rattle.rate_tool.proofs.Pieces.{piece-and-rest, none-left}
use Rattle.rate_tool.proofs.sources.SureSourceSource.read.Goals as goal

pub returns-clause-bytes : goal.returns-clause-bytes
returns-clause-bytes c =
    let bytes = c.self.inside.bytes in
    let at = c.self.inside.at in
    let k = c.min-count.result in
    let rest : c.split_at.result.1.now ≡ drop at bytes = c.split_at.ensures.back ∙ ap (λ t. drop at t) c.as_slice.ensures in
    let piece : c.copy_from_slice.new.self ≡ take k (drop at bytes) = c.copy_from_slice.ensures.after ∙ ap (λ t. take k t) rest in
    let least : k ≡ min (length (drop at bytes)) (length c.args.buf.now) = c.min-count.ensures ∙ ap (λ t. min (length t) (length c.args.buf.now)) rest in
    (sym c.self.view_is ∙ piece-and-rest bytes c.args.buf.now c.copy_from_slice.new.self at k piece (omega (arith, least)), none-left bytes at k (length c.args.buf.now) least c.requires)
