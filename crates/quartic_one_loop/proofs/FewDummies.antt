-- Tensors without their entries with more than two dummies.
use Rattle.std.specs.Prelude.{◌≡◌, ◌+◌, ◌==◌, ℕ, zero, suc, nat_le, Bool, true, false, List, [], ◌∷◌, ◌++◌, map, length, slice_get, Option, Some, None, count_by}
use Rattle.std.specs.List.{All, flat_map}
use Rattle.std.proofs.Common.{cond, subst, refl, sym, ap, ap₂, ◌∙◌, arith}
use Rattle.std.proofs.lemmas.List.{length-map}
use Rattle.std.proofs.lemmas.List.Elements.{All-append}
use Rattle.std.proofs.lemmas.List.Sums.{sum_by-cons}
use Rattle.std.proofs.lemmas.Option.{slice_get_within, same_Some}
use Rattle.exact_algebra.specs.Formal.{coefficient-cons, coefficient-nil}
use Rattle.exact_algebra.specs.Sums.{where_equal, where_equal-apart}
use Rattle.exact_algebra.specs.TensorContraction.{places_keys, places_cmp, places_equal}
use Rattle.beta_poly.specs.Polynomial.{Polynomial, poly_ring, zero_poly, add_poly}
use Rattle.sparse_tensor.specs.declared.values.Value.{Value}
use Rattle.sparse_tensor.specs.Tensor.{Tensor, Entries, HasRank, HasValues, poly_zero_test, rank_of, entries_of, value, value_in}
use Rattle.sparse_tensor.specs.Operations.{entry, gathered_at}
use Rattle.model_core.specs.declared.model.Model.{Model}
use Rattle.model_core.specs.Component.{Component}
use Rattle.model_core.specs.Scalar.{Coordinate, coordinates_of, scalar_components, scalar_coordinates}
use Rattle.model_core.specs.Scalar.Coordinate.{Of, Dummy}
use Rattle.model_core.specs.TermTensor.{value_or, with_coordinate}
use Rattle.model_core.proofs.ScalarLaws.{dummy_at}
use Rattle.term_expand.proofs.Added.{gathered_none}
use Rattle.term_expand.proofs.Legs.{of_four}
use Rattle.term_expand.proofs.Sides.{gathered-append}
use Rattle.beta_formulas.specs.ScalarBeta.{at_four, over_orders, dummy_count, scalar_beta, scalar_beta_at}
use Rattle.quartic_one_loop.specs.FewDummies.{has_few, formed, formed_at}
use Rattle.quartic_one_loop.specs.FourLegs.{four_at}
use Rattle.quartic_one_loop.specs.OrderShares.{order_share}
use Rattle.quartic_one_loop.proofs.OrderSums.{over_orders-shares}
use Rattle.quartic_one_loop.proofs.SliceValues.{gathered_one}

-- ---- the values that are kept

kept_add : (c : Bool) (p q : Polynomial) → add_poly (cond c p zero_poly) (cond c q zero_poly) ≡ cond c (add_poly p q) zero_poly
kept_add true p q = refl
kept_add false p q = poly_ring.semiring.add_zero zero_poly

kept_none : (c : Bool) → zero_poly ≡ cond c zero_poly zero_poly
kept_none true = refl
kept_none false = refl

module _ (dummy : ℕ) (key : List ℕ) where
  apart : (k : List ℕ) (x : Polynomial) (b c : Bool) → has_few dummy k ≡ b → has_few dummy key ≡ c → (b ≡ c → ⊥) → where_equal poly_ring.semiring (places_cmp key k) x ≡ zero_poly
  apart k x b c first second other =
      where_equal-apart poly_ring.semiring (places_cmp key k) x (λ h. other (sym first ∙ ap (has_few dummy) (sym (places_equal key k h)) ∙ second))

  one_formed : (e : List ℕ × Polynomial) (b c : Bool) → has_few dummy e.0 ≡ b → has_few dummy key ≡ c
      → gathered_at (map entry (cond b (record { key = e.0; value = e.1 } ∷ []) [])) key ≡ cond c (where_equal poly_ring.semiring (places_cmp key e.0) e.1) zero_poly
  one_formed e true true first second = gathered_one (record { key = e.0; value = e.1 }) key
  one_formed e true false first second = gathered_one (record { key = e.0; value = e.1 }) key ∙ apart e.0 e.1 true false first second (λ h. absurd cc)
  one_formed e false true first second = gathered_none key ∙ sym (apart e.0 e.1 false true first second (λ h. absurd cc))
  one_formed e false false first second = gathered_none key

  all_formed : (es : Entries) → gathered_at (map entry (flat_map (formed dummy) es)) key ≡ cond (has_few dummy key) (value_in es key) zero_poly
  all_formed [] =
      gathered_none key
      ∙ kept_none (has_few dummy key)
      ∙ ap (λ p. cond (has_few dummy key) p zero_poly) (sym (coefficient-nil places_keys poly_ring.semiring poly_zero_test key))
  all_formed (e ∷ es) =
      gathered-append (formed dummy e) (flat_map (formed dummy) es) key
      ∙ ap₂ add_poly (one_formed e (has_few dummy e.0) (has_few dummy key) refl refl) (all_formed es)
      ∙ kept_add (has_few dummy key) (where_equal poly_ring.semiring (places_cmp key e.0) e.1) (value_in es key)
      ∙ ap (λ p. cond (has_few dummy key) p zero_poly) (sym (coefficient-cons places_keys poly_ring.semiring poly_zero_test e es key))

one_long : (dummy n : ℕ) (e : List ℕ × Polynomial) → length e.0 ≡ n → All {X = Value} (λ v. length v.key ≡ n) (formed dummy e)
one_long dummy n e long = by_test (has_few dummy e.0)
  where
    first : (v : Value) → length v.key ≡ n → All {X = Value} (λ v. length v.key ≡ n) (v ∷ [])
    first v is zero d within = is
    first v is (suc i) d within = absurd (omega (arith, within))

    by_test : (b : Bool) → All {X = Value} (λ v. length v.key ≡ n) (cond b (record { key = e.0; value = e.1 } ∷ []) [])
    by_test true = first (record { key = e.0; value = e.1 }) long
    by_test false = λ i d within. absurd (omega (arith, within))

all_long : (dummy n : ℕ) (es : Entries) → HasRank n es → All {X = Value} (λ v. length v.key ≡ n) (flat_map (formed dummy) es)
all_long dummy n [] keys = λ i d within. absurd (omega (arith, within))
all_long dummy n (e ∷ es) keys =
    All-append (λ v. length v.key ≡ n) (formed dummy e) (flat_map (formed dummy) es) (one_long dummy n e keys.0) (all_long dummy n es keys.1)

module _ (dummy : ℕ) (t : Tensor) (values : List Value) (is : values ≡ flat_map (formed dummy) (entries_of t)) where
  pub formed_keys : All {X = Value} (λ v. length v.key ≡ rank_of t) values
  formed_keys = subst (All {X = Value} (λ v. length v.key ≡ rank_of t)) (sym is) (all_long dummy (rank_of t) (entries_of t) t.1.keys)

  pub formed_values : (s : Tensor) → HasValues (rank_of t) (gathered_at (map entry values)) s → HasValues (rank_of t) (formed_at dummy (value t)) s
  formed_values s has = record {
    rank_is = has.rank_is;
    value_is = λ key l. has.value_is key l ∙ ap (λ vs. gathered_at (map entry vs) key) is ∙ all_formed dummy key (entries_of t);
  }

-- ---- dummies of keys and of coordinates

no_place : (p n : ℕ) → (p ≡ n → ⊥) → (p == n) ≡ false
no_place p n other = grind arith

own_place : (p n : ℕ) → p ≡ n → (p == n) ≡ true
own_place p n is = grind arith

-- the dummy stands behind the components
dummy_last : (xs : List Component) (p : ℕ) → slice_get (map Of xs ++ Dummy ∷ []) p ≡ Some Dummy → p ≡ length xs
dummy_last [] zero there = refl
dummy_last [] (suc p) there = absurd (omega (arith, slice_get_within (Dummy ∷ []) (suc p) Dummy there))
dummy_last (x ∷ xs) zero there = absurd cc
dummy_last (x ∷ xs) (suc p) there = ap suc (dummy_last xs p there)

dummy_apart : (c : Component) → Some (Of c) ≡ Some Dummy → ⊥
dummy_apart c h = cc

none_more : (n : ℕ) → 0 + n ≡ n
none_more n = omega arith

one_more : (n : ℕ) → 1 + n ≡ suc n
one_more n = omega arith

module _ (model : Model) (dummy : ℕ) (last : dummy ≡ length (scalar_components model)) where
  dummy_there : slice_get (scalar_coordinates model) dummy ≡ Some Dummy
  dummy_there =
      dummy_at (map Of (scalar_components model)) dummy Dummy (last ∙ sym (length-map (scalar_components model) Of))

  counted : (p : ℕ) (a : Coordinate) (ps : List ℕ) (cs : List Coordinate) → slice_get (scalar_coordinates model) p ≡ Some a → count_by (λ place. place == dummy) ps ≡ dummy_count cs → count_by (λ place. place == dummy) (p ∷ ps) ≡ dummy_count (a ∷ cs)
  counted p (Of c) ps cs there rest =
      sum_by-cons (λ place. cond (place == dummy) 1 0) p ps
      ∙ ap₂ (λ b n. cond b 1 0 + n) (no_place p dummy (λ e. dummy_apart c (sym there ∙ ap (slice_get (scalar_coordinates model)) e ∙ dummy_there))) rest
      ∙ none_more (dummy_count cs)
  counted p Dummy ps cs there rest =
      sum_by-cons (λ place. cond (place == dummy) 1 0) p ps
      ∙ ap₂ (λ b n. cond b 1 0 + n) (own_place p dummy (dummy_last (scalar_components model) p there ∙ sym last)) rest
      ∙ one_more (dummy_count cs)

  at_few : (p q r s : ℕ) (o o1 o2 o3 : Option Coordinate) → slice_get (scalar_coordinates model) p ≡ o → slice_get (scalar_coordinates model) q ≡ o1 → slice_get (scalar_coordinates model) r ≡ o2 → slice_get (scalar_coordinates model) s ≡ o3
      → cond (has_few dummy (p ∷ q ∷ r ∷ s ∷ [])) (value_or zero_poly (at_four (over_orders (order_share model))) (with_coordinate o (with_coordinate o1 (with_coordinate o2 (with_coordinate o3 (Some [])))))) zero_poly
      ≡ value_or zero_poly (scalar_beta model) (with_coordinate o (with_coordinate o1 (with_coordinate o2 (with_coordinate o3 (Some [])))))
  unfolding scalar_beta
  at_few p q r s None o1 o2 o3 at_p at_q at_r at_s = sym (kept_none (has_few dummy (p ∷ q ∷ r ∷ s ∷ [])))
  at_few p q r s (Some a) None o2 o3 at_p at_q at_r at_s = sym (kept_none (has_few dummy (p ∷ q ∷ r ∷ s ∷ [])))
  at_few p q r s (Some a) (Some b) None o3 at_p at_q at_r at_s = sym (kept_none (has_few dummy (p ∷ q ∷ r ∷ s ∷ [])))
  at_few p q r s (Some a) (Some b) (Some c) None at_p at_q at_r at_s =
      sym (kept_none (has_few dummy (p ∷ q ∷ r ∷ s ∷ [])))
  at_few p q r s (Some a) (Some b) (Some c) (Some d) at_p at_q at_r at_s =
      ap₂ (λ n x. cond (nat_le n 2) x zero_poly)
      (counted p a (q ∷ r ∷ s ∷ []) (b ∷ c ∷ d ∷ []) at_p
      (counted q b (r ∷ s ∷ []) (c ∷ d ∷ []) at_q
      (counted r c (s ∷ []) (d ∷ []) at_r
      (counted s d [] [] at_s refl))))
      (over_orders-shares model a b c d)

  -- what is formed are the beta functions
  pub formed_beta : (key : List ℕ) → length key ≡ 4 → formed_at dummy (four_at model (over_orders (order_share model))) key ≡ scalar_beta_at model key
  formed_beta =
      of_four (λ key. formed_at dummy (four_at model (over_orders (order_share model))) key ≡ scalar_beta_at model key) (λ p q r s.
      let cs = scalar_coordinates model in
      at_few p q r s (slice_get cs p) (slice_get cs q) (slice_get cs r) (slice_get cs s) refl refl refl refl)

-- ---- no scalars

only_dummy : (i : ℕ) (a : Coordinate) → slice_get (Dummy ∷ []) i ≡ Some a → a ≡ Dummy
only_dummy zero a there = sym (same_Some Dummy a there)
only_dummy (suc i) a there = absurd (omega (arith, slice_get_within (Dummy ∷ []) (suc i) a there))

module _ (model : Model) where
  all_dummies : (a b c d : Coordinate) → a ≡ Dummy → b ≡ Dummy → c ≡ Dummy → d ≡ Dummy → scalar_beta model (a ∷ b ∷ c ∷ d ∷ []) ≡ zero_poly
  unfolding scalar_beta
  all_dummies a b c d at_a at_b at_c at_d =
      ap (scalar_beta model) (λ i. at_a i ∷ at_b i ∷ at_c i ∷ at_d i ∷ [])

  no_coordinates : (o p q r : Option Coordinate) → ((a : Coordinate) → o ≡ Some a → a ≡ Dummy) → ((a : Coordinate) → p ≡ Some a → a ≡ Dummy) → ((a : Coordinate) → q ≡ Some a → a ≡ Dummy) → ((a : Coordinate) → r ≡ Some a → a ≡ Dummy)
      → zero_poly ≡ value_or zero_poly (scalar_beta model) (with_coordinate o (with_coordinate p (with_coordinate q (with_coordinate r (Some [])))))
  no_coordinates None p q r f g h k = refl
  no_coordinates (Some a) None q r f g h k = refl
  no_coordinates (Some a) (Some b) None r f g h k = refl
  no_coordinates (Some a) (Some b) (Some c) None f g h k = refl
  no_coordinates (Some a) (Some b) (Some c) (Some d) f g h k =
      sym (all_dummies a b c d (f a refl) (g b refl) (h c refl) (k d refl))

  -- without scalars all legs are dummies
  pub no_scalar_betas : model.scalars ≡ [] → (key : List ℕ) → length key ≡ 4 → zero_poly ≡ scalar_beta_at model key
  no_scalar_betas none =
      of_four (λ key. zero_poly ≡ scalar_beta_at model key) (λ p q r s.
      let cs = scalar_coordinates model in
      let is : cs ≡ Dummy ∷ [] = ap (λ fields. map Of (flat_map (coordinates_of model.groups) fields) ++ Dummy ∷ []) none in
      let only : (i : ℕ) (a : Coordinate) → slice_get cs i ≡ Some a → a ≡ Dummy = (λ i a there. only_dummy i a (ap (λ ds. slice_get ds i) (sym is) ∙ there)) in
      no_coordinates (slice_get cs p) (slice_get cs q) (slice_get cs r) (slice_get cs s) (only p) (only q) (only r) (only s))
