use Rattle.std.specs.Prelude.{ℕ, List}
use Rattle.std.proofs.Common.{◌≡◌, ap, is_lt, rules}
use Rattle.std.proofs.lemmas.List.Sorted.{ranks_by, answers_always}
use Rattle.exact_algebra.specs.TensorContraction.{places_keys, places_cmp}
use Rattle.beta_poly.specs.Polynomial.{Polynomial}
use Rattle.sparse_tensor.proofs.entries.sort_entries.Goals as goal

pub returns-clause-sorted : goal.returns-clause-sorted
returns-clause-sorted c =
    c.in_ok-sort_by.ensures.sorted (λ x y. is_lt (places_cmp x.0 y.0)) (ranks_by places_keys.total (λ (p : List ℕ × Polynomial). p.0)) (answers_always _ (λ a r. is_lt r ≡ is_lt (places_cmp a.0.now.0 a.1.0.now.0)) _ (λ f a r f' k. let e : r ≡ places_cmp a.0.now.0 a.1.0.now.0 = search rules in ap is_lt e))
