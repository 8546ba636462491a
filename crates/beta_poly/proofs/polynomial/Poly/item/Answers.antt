use Rattle.std.proofs.Common.{◌<◌, length, slice_get, subst, refl, sym, ap, ◌∙◌, rules}
use Rattle.std.proofs.lemmas.Option.{slice_get_read}
use Rattle.beta_poly.proofs.Views.{terms_are}
use Rattle.beta_poly.proofs.polynomial.Poly.item.Goals as goal

pub index-requires : goal.index-requires
index-requires c =
    let same = terms_are c.self.inside.terms.items c.args.self.now c.self.invariant c.self.view_is in
    let inside : c.args.place < length c.self.inside.terms.items = subst (λ p. c.args.place < length p) (sym same) c.requires in
    search rules

pub returns : goal.returns
returns c =
    let same = terms_are c.self.inside.terms.items c.args.self.now c.self.invariant c.self.view_is in
    ap (λ p. slice_get p c.args.place) (sym same) ∙ slice_get_read c.self.inside.terms.items (length c.self.inside.terms.items) c.args.place c.index.result.now refl (subst (λ p. c.args.place < length p) (sym same) c.requires) c.index.ensures
