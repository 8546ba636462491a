-- Links from each scalar component to its partner.
use Rattle.std.specs.Prelude.{◌≡◌, ◌<◌, ◌≤◌, ◌+◌, ◌-◌, ◌⊎◌, ℕ, List, [], ◌∷◌, ◌++◌, length, get_or}
use Rattle.std.specs.Ordering.{nat_cmp, ordering_then}
use Rattle.std.proofs.Common.{sym, subst, ap, ap₂, ◌∙◌, arith, inl, inr, Less}
use Rattle.std.proofs.lemmas.Bool.{cases_lt}
use Rattle.std.proofs.Math.Seq.{get_or-append_seam}
use Rattle.std.proofs.lemmas.List.{length-append, get_or_append_left}
use Rattle.exact_algebra.specs.Sums.{less_cmp}
use Rattle.sparse_tensor.specs.declared.links.Link.{Link}
use Rattle.sparse_tensor.specs.Operations.{link_cmp, IsAfter}
use Rattle.model_core.specs.declared.model.Model.{Model}
use Rattle.quartic_one_loop.specs.LoopSums.{IsPartnerLink, ArePartnerLinks}

less_link : (k l : Link) → k.from < l.from → link_cmp k l ≡ Less
less_link k l h = ap (λ o. ordering_then o (nat_cmp k.to l.to)) (less_cmp k.from l.from h)

module _ (model : Model) where
  pub links_none : (links : List Link) → links ≡ [] → ArePartnerLinks model 0 links
  links_none links is = record {
    count_is = ap length is;
    each = λ i d inside. let none : length links ≡ 0 = ap length is in absurd (omega (arith, inside, none));
  }

  -- the next link comes after the others
  pub links_after : (n : ℕ) (links : List Link) (next : Link) → ArePartnerLinks model n links → next.from ≡ n → IsAfter links next
  links_after n links next are from filled =
      let count = are.count_is in
      let inside : length links - 1 < length links = omega (arith, filled) in
      let last = are.each (length links - 1) next inside in
      let before : (get_or links (length links - 1) next).from < next.from = let at = last.from_is in omega (arith, at, count, from, filled) in
      less_link (get_or links (length links - 1) next) next before

  module _ (n : ℕ) (links new : List Link) (next : Link) (are : ArePartnerLinks model n links) (one : IsPartnerLink model n next) (pushed : new ≡ links ++ next ∷ []) where
    more_long : length new ≡ n + 1
    more_long = let count = are.count_is in let long = length-append links (next ∷ []) in ap length pushed ∙ omega (arith, count, long)

    more_at : (i : ℕ) (d : Link) → i < length new → (i < length links) ⊎ (length links ≤ i) → IsPartnerLink model i (get_or new i d)
    more_at i d inside (inl before) =
        subst (IsPartnerLink model i) (sym (ap (λ ls. get_or ls i d) pushed ∙ get_or_append_left links (next ∷ []) d i before)) (are.each i d before)
    more_at i d inside (inr past) =
        let last : i ≡ length links = let long = more_long in let count = are.count_is in omega (arith, inside, past, long, count) in
        let here : next ≡ get_or new i d = sym (ap₂ (λ ls k. get_or ls k d) pushed last ∙ get_or-append_seam links next [] d) in
        subst (λ k. IsPartnerLink model k (get_or new i d)) (sym (last ∙ are.count_is)) (subst (IsPartnerLink model n) here one)

    -- one link more
    pub links_more : ArePartnerLinks model (n + 1) new
    links_more = record { count_is = more_long; each = λ i d inside. more_at i d inside (cases_lt i (length links)) }
