-- Sums of the values of two sides whose component belongs to a block, and of those of the scalar beta tensor on one side.
use Rattle.std.specs.Prelude.{◌≡◌, ◌≤◌, ◌==◌, ℕ, zero, suc, Bool, true, false, if◌then◌else◌, List, [], ◌∷◌, ◌++◌, map, length}
use Rattle.std.specs.List.{All, flat_map}
use Rattle.std.specs.Ordering.{nat_cmp}
use Rattle.std.proofs.Common.{subst, refl, sym, ap, ap₂, ◌∙◌, arith, true≢false, inl, inr}
use Rattle.std.proofs.lemmas.Cmp.{nat_cmp_total, tied_itself}
use Rattle.std.proofs.lemmas.List.Elements.{All-append}
use mathlib.Core.Path.{fun_ext}
use Rattle.exact_algebra.specs.Formal.{coefficient}
use Rattle.exact_algebra.specs.Ring.{zero_add}
use Rattle.exact_algebra.specs.Sums.{sum, sum-nil, sum-one, sum-zero, sum-map, sum-flat_map, where_equal, where_equal-apart, nat_equal}
use Rattle.exact_algebra.specs.Kronecker.{where_then, sum-where}
use Rattle.exact_algebra.specs.TensorContraction.{places_cmp, places_equal}
use Rattle.beta_poly.specs.Polynomial.{Polynomial, poly_ring, zero_poly, add_poly}
use Rattle.sparse_tensor.specs.declared.fault.TensorFault.{TensorFault}
use Rattle.sparse_tensor.specs.declared.values.Value.{Value}
use Rattle.sparse_tensor.specs.Refusals.{IsRefusalOf}
use Rattle.sparse_tensor.specs.Tensor.{Tensor, Entries, HasRank, HasValues, rank_of, entries_of, value, value_in}
use Rattle.sparse_tensor.specs.Operations.{entry, gathered_at}
use Rattle.sparse_tensor.proofs.Parts.{refusal_of}
use Rattle.model_core.specs.declared.model.Model.{Model}
use Rattle.model_core.specs.declared.term.TermKind.TheVariants.{Scalar}
use Rattle.model_core.specs.BlockSide.{component_content, component_block}
use Rattle.model_core.specs.Content.{same_block}
use Rattle.term_expand.specs.declared.token.Token.{Token}
use Rattle.term_expand.proofs.Legs.{of_three, of_four}
use Rattle.term_expand.proofs.Sides.{gathered-append}
use Rattle.span_solver.specs.BlockDirections.{same_name}
use Rattle.beta_formulas.specs.ScalarBeta.{scalar_beta_at}
use Rattle.derive_core.specs.BlockBetas.{IsLegCount, scalar_side, name_at, yukawa_side_beta, scalar_side_beta, side_beta, block_beta}
use Rattle.derive_core.specs.SideBetas.{AreSideBetas, side_values, named_values}
use Rattle.derive_core.specs.declared.block_betas.SideBetas.{SideBetas}
use Rattle.derive_core.proofs.BlockNames.{nat_same}

-- ---- sums over entries that belong

-- an entry at another key where that belongs, or nothing
abbrev chosen : (List ℕ → Bool) → (List ℕ → List ℕ) → List ℕ × Polynomial → List Value
chosen belongs moved e = if belongs (moved e.0) then record { key = moved e.0; value = e.1 } ∷ [] else []

module _ (belongs : List ℕ → Bool) (moved : List ℕ → List ℕ) where
  one_chosen : (e : List ℕ × Polynomial) (key : List ℕ)
      → sum poly_ring.semiring (chosen belongs moved e) (λ v. where_equal poly_ring.semiring (places_cmp key v.key) v.value) ≡ (if belongs key then where_equal poly_ring.semiring (places_cmp key (moved e.0)) e.1 else zero_poly)
  one_chosen e key = by_tests (belongs (moved e.0)) (belongs key) refl refl
    where
      by_tests : (b d : Bool) → belongs (moved e.0) ≡ b → belongs key ≡ d
          → sum poly_ring.semiring (if b then record { key = moved e.0; value = e.1 } ∷ [] else []) (λ (v : Value). where_equal poly_ring.semiring (places_cmp key v.key) v.value) ≡ (if d then where_equal poly_ring.semiring (places_cmp key (moved e.0)) e.1 else zero_poly)
      by_tests true true here there = sum-one poly_ring.semiring (record { key = moved e.0; value = e.1 }) (λ (v : Value). where_equal poly_ring.semiring (places_cmp key v.key) v.value)
      by_tests true false here there =
          sum-one poly_ring.semiring (record { key = moved e.0; value = e.1 }) (λ (v : Value). where_equal poly_ring.semiring (places_cmp key v.key) v.value)
          ∙ where_equal-apart poly_ring.semiring (places_cmp key (moved e.0)) e.1 (λ h. true≢false (sym here ∙ ap belongs (sym (places_equal key (moved e.0) h)) ∙ there))
      by_tests false true here there =
          sum-nil poly_ring.semiring (λ (v : Value). where_equal poly_ring.semiring (places_cmp key v.key) v.value)
          ∙ sym (where_equal-apart poly_ring.semiring (places_cmp key (moved e.0)) e.1 (λ h. true≢false (sym there ∙ ap belongs (places_equal key (moved e.0) h) ∙ here)))
      by_tests false false here there = sum-nil poly_ring.semiring (λ (v : Value). where_equal poly_ring.semiring (places_cmp key v.key) v.value)

  sum_chosen : (b : Bool) (es : Entries) (f : List ℕ × Polynomial → Polynomial) → sum poly_ring.semiring es (λ e. if b then f e else zero_poly) ≡ (if b then sum poly_ring.semiring es f else zero_poly)
  sum_chosen true es f = refl
  sum_chosen false es f = sum-zero poly_ring.semiring es

  -- Entries with one key belong all or none.
  gathered_chosen : (es : Entries) (key : List ℕ)
      → gathered_at (map entry (flat_map (chosen belongs moved) es)) key ≡ (if belongs key then sum poly_ring.semiring es (λ e. where_equal poly_ring.semiring (places_cmp key (moved e.0)) e.1) else zero_poly)
  unfolding gathered_at
  gathered_chosen es key =
      sum-map poly_ring.semiring entry (flat_map (chosen belongs moved) es) (λ e. where_equal poly_ring.semiring (places_cmp key e.0) e.1)
      ∙ sum-flat_map poly_ring.semiring (chosen belongs moved) es (λ v. where_equal poly_ring.semiring (places_cmp key v.key) v.value)
      ∙ ap (sum poly_ring.semiring es) (fun_ext (λ e. one_chosen e key))
      ∙ sum_chosen (belongs key) es (λ e. where_equal poly_ring.semiring (places_cmp key (moved e.0)) e.1)

  no_keys : (n : ℕ) → All (λ (v : Value). length v.key ≡ n) []
  no_keys n i d within = absurd (omega (arith, within))

  chosen_keys : (m n : ℕ) → ((key : List ℕ) → length key ≡ m → length (moved key) ≡ n) → (es : Entries) → HasRank m es → All (λ v. length v.key ≡ n) (flat_map (chosen belongs moved) es)
  chosen_keys m n longer [] keys = no_keys n
  chosen_keys m n longer (e ∷ es) keys =
      All-append (λ v. length v.key ≡ n) (chosen belongs moved e) (flat_map (chosen belongs moved) es) (one (belongs (moved e.0))) (chosen_keys m n longer es keys.1)
    where
      one : (b : Bool) → All (λ (v : Value). length v.key ≡ n) (if b then record { key = moved e.0; value = e.1 } ∷ [] else [])
      one true zero d within = longer e.0 keys.0
      one true (suc i) d within = absurd (omega (arith, within))
      one false i d within = absurd (omega (arith, within))

-- ---- refusals

empty_front : {A : Type 0} (xs ys : List A) → xs ++ ys ≡ [] → xs ≡ []
empty_front [] ys none = refl
empty_front (x ∷ xs) ys none = let never : ⊥ = cc in absurd never

empty_rest : {A : Type 0} (xs ys : List A) → xs ++ ys ≡ [] → ys ≡ []
empty_rest [] ys none = none
empty_rest (x ∷ xs) ys none = let never : ⊥ = cc in absurd never

-- a refusal of a part of a list is one of all of it
pub refusal_front : {A : Type 0} (xs ys : List A) (bad : TensorFault) → IsRefusalOf xs bad → IsRefusalOf (xs ++ ys) bad
refusal_front xs ys bad refused = refusal_of (xs ++ ys) xs bad (empty_front xs ys) refused

pub refusal_rest : {A : Type 0} (xs ys : List A) (bad : TensorFault) → IsRefusalOf ys bad → IsRefusalOf (xs ++ ys) bad
refusal_rest xs ys bad refused = refusal_of (xs ++ ys) ys bad (empty_rest xs ys) refused

-- ---- the scalar beta tensor on one side

gathered_side : (model : Model) (side : ℕ) (es : Entries) (key : List ℕ) → gathered_at (map entry (flat_map (side_values model side) es)) key ≡ (if scalar_side model key == side then value_in es key else zero_poly)
unfolding coefficient
gathered_side model side es key = gathered_chosen (λ k. scalar_side model k == side) (λ k. k) es key

-- what is gathered is the part on a side
pub has_part : (model : Model) (side : ℕ) (t : Tensor) (vs : List Value) (found : Tensor) → HasValues 4 (scalar_beta_at model) t → vs ≡ flat_map (side_values model side) (entries_of t) → HasValues 4 (gathered_at (map entry vs)) found → HasValues 4 (scalar_side_beta model side) found
has_part model side t vs found has is gathered =
    record {
      rank_is = gathered.rank_is;
      value_is = λ key long. gathered.value_is key long ∙ ap (λ xs. gathered_at (map entry xs) key) is ∙ gathered_side model side (entries_of t) key ∙ ap (λ p. if scalar_side model key == side then p else zero_poly) (has.value_is key long);
    }

pub part_keys : (model : Model) (side : ℕ) (t : Tensor) (vs : List Value) → rank_of t ≡ 4 → vs ≡ flat_map (side_values model side) (entries_of t) → All (λ v. length v.key ≡ 4) vs
part_keys model side t vs four is =
    subst (All (λ v. length v.key ≡ 4)) (sym is)
    (chosen_keys (λ k. scalar_side model k == side) (λ k. k) 4 4 (λ key long. long) (entries_of t) (subst (λ rank. HasRank rank (entries_of t)) four t.1.keys))

-- no entries, no values
pub no_part : (model : Model) (side : ℕ) (es : Entries) (vs : List Value) → vs ≡ flat_map (side_values model side) es → es ≡ [] → vs ≡ []
no_part model side es vs is none = is ∙ ap (flat_map (side_values model side)) none

-- ---- two sides

side_sum : (side : ℕ) (es : Entries) (x : ℕ) (key : List ℕ) → sum poly_ring.semiring es (λ e. where_equal poly_ring.semiring (places_cmp (x ∷ key) (side ∷ e.0)) e.1) ≡ where_equal poly_ring.semiring (nat_cmp x side) (value_in es key)
unfolding coefficient
side_sum side es x key =
    ap (sum poly_ring.semiring es) (fun_ext (λ e. where_then poly_ring.semiring (nat_cmp x side) (places_cmp key e.0) e.1))
    ∙ sum-where poly_ring.semiring (nat_cmp x side) es (λ e. where_equal poly_ring.semiring (places_cmp key e.0) e.1)

same_side : (x : ℕ) (p : Polynomial) → where_equal poly_ring.semiring (nat_cmp x x) p ≡ p
same_side x p = ap (λ o. where_equal poly_ring.semiring o p) (tied_itself nat_cmp_total x)

other_side : (x side : ℕ) (p : Polynomial) → (x ≡ side → ⊥) → where_equal poly_ring.semiring (nat_cmp x side) p ≡ zero_poly
other_side x side p other = where_equal-apart poly_ring.semiring (nat_cmp x side) p (λ h. other (nat_equal x side h))

-- the values of two tensors, one on each side, that belong to a block
abbrev pub block_values : Model → List Token → Tensor → Tensor → List Value
block_values model name own conjugate = named_values model name 0 (entries_of own) ++ named_values model name 1 (entries_of conjugate)

module _ (model : Model) (name : List Token) where
  abbrev is_named : List ℕ → Bool
  is_named key = same_name (name_at model key) name

  named_sum : (side : ℕ) (es : Entries) (x : ℕ) (key : List ℕ) → gathered_at (map entry (named_values model name side es)) (x ∷ key) ≡ (if is_named (x ∷ key) then where_equal poly_ring.semiring (nat_cmp x side) (value_in es key) else zero_poly)
  named_sum side es x key =
      gathered_chosen is_named (λ k. side ∷ k) es (x ∷ key)
      ∙ ap (λ p. if is_named (x ∷ key) then p else zero_poly) (side_sum side es x key)

  named_keys : (n side : ℕ) (t : Tensor) → rank_of t ≡ n → All (λ v. length v.key ≡ suc n) (named_values model name side (entries_of t))
  named_keys n side t is =
      chosen_keys is_named (λ k. side ∷ k) n (suc n) (λ key long. ap suc long) (entries_of t) (subst (λ rank. HasRank rank (entries_of t)) is t.1.keys)

  pub block_keys : (n : ℕ) (own conjugate : Tensor) (vs : List Value) → rank_of own ≡ n → rank_of conjugate ≡ n → vs ≡ block_values model name own conjugate → All (λ v. length v.key ≡ suc n) vs
  block_keys n own conjugate vs first second is =
      subst (All (λ v. length v.key ≡ suc n)) (sym is)
      (All-append (λ v. length v.key ≡ suc n) (named_values model name 0 (entries_of own)) (named_values model name 1 (entries_of conjugate)) (named_keys n 0 own first) (named_keys n 1 conjugate second))

  -- tensors with the values of a function on both sides, which is 0 on others
  module _ (n : ℕ) (f : ℕ → List ℕ → Polynomial) (own conjugate : Tensor) (first : HasValues n (f 0) own) (second : HasValues n (f 1) conjugate) (none : (x : ℕ) (key : List ℕ) → f (suc (suc x)) key ≡ zero_poly) where
    both_sides : (key : List ℕ) → length key ≡ n → (b : Bool) (x : ℕ)
        → add_poly (if b then where_equal poly_ring.semiring (nat_cmp x 0) (value own key) else zero_poly) (if b then where_equal poly_ring.semiring (nat_cmp x 1) (value conjugate key) else zero_poly) ≡ (if b then f x key else zero_poly)
    both_sides key long false x = zero_add poly_ring.semiring zero_poly
    both_sides key long true zero =
        ap₂ add_poly (same_side 0 (value own key)) (other_side 0 1 (value conjugate key) (λ h. omega (arith, h)))
        ∙ poly_ring.semiring.add_zero (value own key) ∙ first.value_is key long
    both_sides key long true (suc zero) =
        ap₂ add_poly (other_side 1 0 (value own key) (λ h. omega (arith, h))) (same_side 1 (value conjugate key))
        ∙ zero_add poly_ring.semiring (value conjugate key) ∙ second.value_is key long
    both_sides key long true (suc (suc x)) =
        ap₂ add_poly (other_side (suc (suc x)) 0 (value own key) (λ h. omega (arith, h))) (other_side (suc (suc x)) 1 (value conjugate key) (λ h. omega (arith, h)))
        ∙ zero_add poly_ring.semiring zero_poly ∙ sym (none x key)

    block_sum : (x : ℕ) (key : List ℕ) → length key ≡ n → gathered_at (map entry (block_values model name own conjugate)) (x ∷ key) ≡ (if is_named (x ∷ key) then f x key else zero_poly)
    block_sum x key long =
        gathered-append (named_values model name 0 (entries_of own)) (named_values model name 1 (entries_of conjugate)) (x ∷ key)
        ∙ ap₂ add_poly (named_sum 0 (entries_of own) x key) (named_sum 1 (entries_of conjugate) x key)
        ∙ both_sides key long (is_named (x ∷ key)) x

    -- what is gathered is the beta tensor of the block, where the function is the beta tensor on the sides
    has_sides : (found : Tensor) → ((x : ℕ) (key : List ℕ) → length key ≡ n → f x key ≡ side_beta model x key) → HasValues (suc n) (gathered_at (map entry (block_values model name own conjugate))) found → HasValues (suc n) (block_beta model name) found
    has_sides found is gathered = record { rank_is = gathered.rank_is; value_is = λ key long. gathered.value_is key long ∙ at key long }
      where
        at : (key : List ℕ) → length key ≡ suc n → gathered_at (map entry (block_values model name own conjugate)) key ≡ block_beta model name key
        at [] long = absurd (omega (arith, long))
        at (x ∷ key) long =
            let rest : length key ≡ n = omega (arith, long) in
            block_sum x key rest ∙ ap (λ p. if is_named (x ∷ key) then p else zero_poly) (is x key rest)

-- ---- the beta tensor of a block

no_third_side : (model : Model) (x : ℕ) (key : List ℕ) → scalar_side_beta model (suc (suc x)) key ≡ zero_poly
no_third_side model x key = ap (λ b. if b then scalar_beta_at model key else zero_poly) (never (scalar_side model key == suc (suc x)) refl)
  where
    low : (b : Bool) → (if b then 0 else 1) ≤ 1
    low true = omega arith
    low false = omega arith

    never : (b : Bool) → (scalar_side model key == suc (suc x)) ≡ b → (scalar_side model key == suc (suc x)) ≡ false
    never false other = other
    never true same =
        let third : scalar_side model key ≡ suc (suc x) = nat_same (scalar_side model key) (suc (suc x)) same in
        absurd (omega (arith, third, low (same_block (component_content model Scalar (0 ∷ key)) (component_block model Scalar (0 ∷ key)))))

pub four_legs : (n : ℕ) → IsLegCount n → (n ≡ 3 → ⊥) → n ≡ 4
four_legs n (inl three) other = absurd (other three)
four_legs n (inr four) other = four

-- of three legs
pub has_yukawa_block : (model : Model) (name : List Token) (sides : SideBetas) (found : Tensor) → AreSideBetas model sides → length name ≡ 3 → HasValues (suc (rank_of sides.yukawa)) (gathered_at (map entry (block_values model name sides.yukawa sides.conjugate_yukawa))) found → HasValues (suc (length name)) (block_beta model name) found
has_yukawa_block model name sides found are three gathered =
    subst (λ n. HasValues (suc n) (block_beta model name) found) (sym three)
    (has_sides model name 3 (yukawa_side_beta model) sides.yukawa sides.conjugate_yukawa are.yukawa are.conjugate_yukawa (λ x key. refl) found
    (λ x. of_three (λ key. yukawa_side_beta model x key ≡ side_beta model x key) (λ j k a. refl))
    (subst (λ n. HasValues (suc n) (gathered_at (map entry (block_values model name sides.yukawa sides.conjugate_yukawa))) found) are.yukawa.rank_is gathered))

-- of four
pub has_scalar_block : (model : Model) (name : List Token) (sides : SideBetas) (found : Tensor) → AreSideBetas model sides → length name ≡ 4 → HasValues (suc (rank_of sides.scalar)) (gathered_at (map entry (block_values model name sides.scalar sides.conjugate_scalar))) found → HasValues (suc (length name)) (block_beta model name) found
has_scalar_block model name sides found are four gathered =
    subst (λ n. HasValues (suc n) (block_beta model name) found) (sym four)
    (has_sides model name 4 (scalar_side_beta model) sides.scalar sides.conjugate_scalar are.scalar are.conjugate_scalar (no_third_side model) found
    (λ x. of_four (λ key. scalar_side_beta model x key ≡ side_beta model x key) (λ a b c d. refl))
    (subst (λ n. HasValues (suc n) (gathered_at (map entry (block_values model name sides.scalar sides.conjugate_scalar))) found) are.scalar.rank_is gathered))
