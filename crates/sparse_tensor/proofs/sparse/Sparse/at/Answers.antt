use Rattle.std.specs.Prelude.{◌≡◌, ◌≢◌, MatchOption}
use Rattle.std.proofs.Common.{subst, ◌∙◌}
use Rattle.beta_poly.specs.Polynomial.{zero_poly}
use Rattle.sparse_tensor.specs.Tensor.{value_in}
use Rattle.sparse_tensor.proofs.Parts.{entries_are}
use Rattle.sparse_tensor.proofs.sparse.Sparse.at.Goals as goal

pub returns : goal.returns
returns c =
    let same = c.as_slice.ensures.value ∙ entries_are c.self.inside.rank c.self.inside.entries.items c.args.self.now c.self.invariant c.self.view_is in
    subst (λ es. MatchOption c.find.result (value_in es c.args.key.now ≡ zero_poly) (λ p. (p.now ≡ value_in es c.args.key.now) × (p.now ≢ zero_poly))) same c.find.ensures
