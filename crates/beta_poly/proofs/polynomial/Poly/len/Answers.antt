use Rattle.std.proofs.Common.{◌≡◌, length, ap, ◌∙◌, rules}
use Rattle.beta_poly.proofs.Views.{terms_are}
use Rattle.beta_poly.proofs.polynomial.Poly.len.Goals as goal

pub returns : goal.returns
returns c =
    let same = ap length (terms_are c.self.inside.terms.items c.args.self.now c.self.invariant c.self.view_is) in
    let whole : c.len.result ≡ length c.self.inside.terms.items = search rules in
    whole ∙ same
