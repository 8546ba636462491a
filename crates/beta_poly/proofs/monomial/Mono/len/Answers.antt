use Rattle.std.proofs.Common.{◌≡◌, length, ap, ◌∙◌, rules}
use Rattle.beta_poly.proofs.Views.{powers_are}
use Rattle.beta_poly.proofs.monomial.Mono.len.Goals as goal

pub returns : goal.returns
returns c =
    let same = ap length (powers_are c.self.inside.powers.items c.args.self.now c.self.invariant c.self.view_is) in
    let whole : c.len.result ≡ length c.self.inside.powers.items = search rules in
    whole ∙ same
