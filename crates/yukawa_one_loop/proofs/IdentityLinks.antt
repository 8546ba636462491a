-- Links from each of the first places to itself.
use Rattle.std.specs.Prelude.{◌≡◌, ◌<◌, ◌+◌, ℕ, List, [], ◌∷◌, ◌++◌, get_or}
use Rattle.std.specs.List.{All}
use Rattle.std.proofs.Common.{sym, ap, subst, ◌∙◌, arith}
use Rattle.std.proofs.lemmas.List.FromFn.{length-map-range_with_len, get_or-map-range_with_len, map-range_with_len_more}
use Rattle.frac128.specs.Rational.{one_ℚ}
use Rattle.sparse_tensor.specs.declared.links.Link.{Link}
use Rattle.sparse_tensor.specs.Laws.{IsBetween}
use Rattle.sparse_tensor.specs.Operations.{IsAfter}
use Rattle.term_expand.proofs.AllLinks.{dummy_after}
use Rattle.yukawa_one_loop.specs.Matrices.{identity_links}

abbrev pub identity_link : ℕ → Link
identity_link i = record { from = i; to = i; value = one_ℚ }

identity_inside : (n : ℕ) → All (IsBetween n n) (identity_links n)
identity_inside n k d h =
    let within : k < n = let long = length-map-range_with_len identity_link 0 n in omega (arith, h, long) in
    let at : identity_link k ≡ get_or (identity_links n) k d = sym (get_or-map-range_with_len identity_link 0 n k k d within (omega arith)) in
    subst (IsBetween n n) at (within, within)

-- the next link comes after the others
pub identity_after : (n : ℕ) (links : List Link) (next : Link) → links ≡ identity_links n → next ≡ identity_link n → IsAfter links next
identity_after n links next is same =
    subst (λ l. IsAfter links l) (sym same) (subst (λ ls. IsAfter ls (identity_link n)) (sym is) (dummy_after (identity_links n) n (identity_inside n)))

pub identity_more : (n : ℕ) (links new : List Link) (next : Link) → links ≡ identity_links n → next ≡ identity_link n → new ≡ links ++ next ∷ [] → new ≡ identity_links (n + 1)
identity_more n links new next is same pushed =
    pushed ∙ ap (λ l. links ++ l ∷ []) same ∙ ap (λ ls. ls ++ identity_link n ∷ []) is
    ∙ sym (map-range_with_len_more identity_link 0 n n (omega arith))
