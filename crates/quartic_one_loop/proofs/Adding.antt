-- Values that add functions of four scalar legs to others.
use Rattle.std.specs.Prelude.{◌≡◌, ◌<◌, ◌≤◌, ◌+◌, ℕ, List, [], ◌∷◌, ◌++◌, map, take, length, get_or, slice_get, Option, Some, None}
use Rattle.std.specs.List.{All}
use Rattle.std.proofs.Common.{refl, sym, subst, ap, ◌∙◌}
use Rattle.std.proofs.lemmas.List.{take_all, take_more}
use Rattle.std.proofs.lemmas.List.Elements.{All-append}
use Rattle.std.proofs.lemmas.Option.{slice_get_within, slice_get-get_or, get_or_from_slice_get}
use Rattle.exact_algebra.specs.Sums.{sum, sum-nil, sum-one, sum-append}
use Rattle.beta_poly.specs.Polynomial.{Polynomial, poly_ring, zero_poly, add_poly}
use Rattle.sparse_tensor.specs.declared.values.Value.{Value}
use Rattle.sparse_tensor.specs.Tensor.{Tensor, HasValues}
use Rattle.sparse_tensor.specs.Operations.{entry, gathered_at}
use Rattle.model_core.specs.declared.model.Model.{Model}
use Rattle.model_core.specs.declared.term.TermKind.TheVariants.{Scalar}
use Rattle.model_core.specs.GaugeTwoLoop.{over_scalars}
use Rattle.model_core.specs.Scalar.{Coordinate, scalar_components, scalar_coordinates}
use Rattle.model_core.specs.Scalar.Coordinate.{Of}
use Rattle.model_core.specs.TermTensor.{legs_of, coordinates_at, with_coordinate, value_or}
use Rattle.term_expand.proofs.Legs.{of_four}
use Rattle.term_expand.proofs.Sides.{gathered-append}
use Rattle.beta_formulas.specs.ScalarBeta.{FourLegs, at_four}
use Rattle.yukawa_one_loop.specs.Entries.{with_values}
use Rattle.yukawa_one_loop.specs.Parts.{coordinate_at}
use Rattle.yukawa_one_loop.proofs.Coordinates.{nobody, coordinate_first}
use Rattle.yukawa_one_loop.proofs.Entrywise.{IsAdditive, with_values_at, with_values_keys}
use Rattle.quartic_one_loop.specs.FourLegs.{four_at, AddsFour, IsLeg, first_of, over_first}

-- ---- functions of four legs at coordinates

legs_combined : (h : Polynomial → Polynomial → Polynomial) (f g : FourLegs) → h zero_poly zero_poly ≡ zero_poly → (cs : List Coordinate) → h (at_four f cs) (at_four g cs) ≡ at_four (λ a b c d. h (f a b c d) (g a b c d)) cs
legs_combined h f g z [] = z
legs_combined h f g z (a ∷ []) = z
legs_combined h f g z (a ∷ b ∷ []) = z
legs_combined h f g z (a ∷ b ∷ c ∷ []) = z
legs_combined h f g z (a ∷ b ∷ c ∷ d ∷ []) = refl
legs_combined h f g z (a ∷ b ∷ c ∷ d ∷ e ∷ cs) = z

at_combined : (h : Polynomial → Polynomial → Polynomial) (f g : FourLegs) → h zero_poly zero_poly ≡ zero_poly → (o : Option (List Coordinate)) → h (value_or zero_poly (at_four f) o) (value_or zero_poly (at_four g) o) ≡ value_or zero_poly (at_four (λ a b c d. h (f a b c d) (g a b c d))) o
at_combined h f g z None = z
at_combined h f g z (Some cs) = legs_combined h f g z cs

legs_zero : (cs : List Coordinate) → at_four (λ a b c d. zero_poly) cs ≡ zero_poly
legs_zero [] = refl
legs_zero (a ∷ []) = refl
legs_zero (a ∷ b ∷ []) = refl
legs_zero (a ∷ b ∷ c ∷ []) = refl
legs_zero (a ∷ b ∷ c ∷ d ∷ []) = refl
legs_zero (a ∷ b ∷ c ∷ d ∷ e ∷ cs) = refl

at_zero : (o : Option (List Coordinate)) → value_or zero_poly (at_four (λ a b c d. zero_poly)) o ≡ zero_poly
at_zero None = refl
at_zero (Some cs) = legs_zero cs

-- coordinates that may be missing
abbrev pub four_options : FourLegs → Option Coordinate → Option Coordinate → Option Coordinate → Option Coordinate → Polynomial
four_options f o p q r = value_or zero_poly (at_four f) (with_coordinate o (with_coordinate p (with_coordinate q (with_coordinate r (Some [])))))

pub options-same : (f g : FourLegs) (o p q r : Option Coordinate) → ((a b c d : Coordinate) → o ≡ Some a → p ≡ Some b → q ≡ Some c → r ≡ Some d → f a b c d ≡ g a b c d) → four_options f o p q r ≡ four_options g o p q r
options-same f g None p q r h = refl
options-same f g (Some a) None q r h = refl
options-same f g (Some a) (Some b) None r h = refl
options-same f g (Some a) (Some b) (Some c) None h = refl
options-same f g (Some a) (Some b) (Some c) (Some d) h = h a b c d refl refl refl refl

-- a function of values that takes 0 to 0
pub four_at-image : (model : Model) (h : Polynomial → Polynomial) → h zero_poly ≡ zero_poly → (f : FourLegs) (key : List ℕ) → h (four_at model f key) ≡ four_at model (λ a b c d. h (f a b c d)) key
four_at-image model h z f key = at_combined (λ p q. h p) f f z (coordinates_at (legs_of model Scalar) key)

module _ (model : Model) where
  -- the sum of two functions at a key
  pub four_at-add : (f g : FourLegs) (key : List ℕ) → add_poly (four_at model f key) (four_at model g key) ≡ four_at model (λ a b c d. add_poly (f a b c d) (g a b c d)) key
  four_at-add f g key =
      at_combined add_poly f g (poly_ring.semiring.add_zero zero_poly) (coordinates_at (legs_of model Scalar) key)

  pub four_at-zero : (key : List ℕ) → four_at model (λ a b c d. zero_poly) key ≡ zero_poly
  four_at-zero key = at_zero (coordinates_at (legs_of model Scalar) key)

  -- functions that are equal at the legs of the model
  pub four_at-same : (f g : FourLegs) (key : List ℕ) → length key ≡ 4 → ((a b c d : Coordinate) → IsLeg model a → IsLeg model b → IsLeg model c → IsLeg model d → f a b c d ≡ g a b c d) → four_at model f key ≡ four_at model g key
  four_at-same f g key l same =
      of_four (λ k. four_at model f k ≡ four_at model g k) (λ p q r s.
      let cs = scalar_coordinates model in
      options-same f g (slice_get cs p) (slice_get cs q) (slice_get cs r) (slice_get cs s) (λ a b c d x y z w.
      same a b c d (record { place = p; there = x }) (record { place = q; there = y }) (record { place = r; there = z }) (record { place = s; there = w })))
      key l

  -- ---- what is added

  -- the same function at the legs of the model
  pub adds_same_legs : (f g : FourLegs) (old new : List Value) → ((a b c d : Coordinate) → IsLeg model a → IsLeg model b → IsLeg model c → IsLeg model d → f a b c d ≡ g a b c d) → AddsFour model f old new → AddsFour model g old new
  adds_same_legs f g old new same adds = record {
    keys = adds.keys;
    sums = λ key l. adds.sums key l ∙ ap (add_poly (gathered_at (map entry old) key)) (four_at-same f g key l same);
  }

  -- the same function
  pub adds_same : (f g : FourLegs) (old new : List Value) → ((a b c d : Coordinate) → f a b c d ≡ g a b c d) → AddsFour model f old new → AddsFour model g old new
  adds_same f g old new same adds = adds_same_legs f g old new (λ a b c d x y z w. same a b c d) adds

  -- nothing
  pub adds_none : (f : FourLegs) (values : List Value) → ((a b c d : Coordinate) → f a b c d ≡ zero_poly) → AddsFour model f values values
  adds_none f values none = record {
    keys = λ before. before;
    sums = λ key l.
        sym (poly_ring.semiring.add_zero (gathered_at (map entry values) key))
        ∙ ap (add_poly (gathered_at (map entry values) key)) (sym (four_at-same f (λ a b c d. zero_poly) key l (λ a b c d x y z w. none a b c d) ∙ four_at-zero key));
  }

  -- two functions one after the other
  pub adds_both : (f g : FourLegs) (old now new : List Value) → AddsFour model f old now → AddsFour model g now new → AddsFour model (λ a b c d. add_poly (f a b c d) (g a b c d)) old new
  adds_both f g old now new first second = record {
    keys = λ before. second.keys (first.keys before);
    sums = λ key l.
        let p = gathered_at (map entry old) key in
        second.sums key l
        ∙ ap (λ z. add_poly z (four_at model g key)) (first.sums key l)
        ∙ poly_ring.semiring.add_assoc p (four_at model f key) (four_at model g key)
        ∙ ap (add_poly p) (four_at-add f g key);
  }

  -- values put behind others
  pub adds_behind : (f : FourLegs) (old new values : List Value) → new ≡ old ++ values → All (λ v. length v.key ≡ 4) values → ((key : List ℕ) → length key ≡ 4 → gathered_at (map entry values) key ≡ four_at model f key) → AddsFour model f old new
  adds_behind f old new values is keys sums = record {
    keys = λ before. subst (All (λ v. length v.key ≡ 4)) (sym is) (All-append (λ v. length v.key ≡ 4) old values before keys);
    sums = λ key l. ap (λ vs. gathered_at (map entry vs) key) is ∙ gathered-append old values key ∙ ap (add_poly (gathered_at (map entry old) key)) (sums key l);
  }

  -- the values of a tensor with a function of each behind others
  pub adds_image : (h : Polynomial → Polynomial) → IsAdditive h → (f : FourLegs) (t : Tensor) (old new : List Value) → HasValues 4 (four_at model f) t → new ≡ old ++ with_values h t → AddsFour model (λ a b c d. h (f a b c d)) old new
  adds_image h additive f t old new has is =
      adds_behind (λ a b c d. h (f a b c d)) old new (with_values h t) is
      (subst (λ n. All {X = Value} (λ v. length v.key ≡ n) (with_values h t)) has.rank_is (with_values_keys h t))
      (λ key l. with_values_at h additive t key ∙ ap h (has.value_is key l) ∙ four_at-image model h additive.at_zero f key)

  -- ---- sums over the first elements of a list

  module _ {A : Type 0} (xs : List A) (f : A → FourLegs) where
    sums_none : (a b c d : Coordinate) → first_of 0 xs f a b c d ≡ zero_poly
    sums_none a b c d = sum-nil poly_ring.semiring (λ x. f x a b c d)

    sums_more : (n : ℕ) (x : A) → slice_get xs n ≡ Some x → (a b c d : Coordinate) → first_of (n + 1) xs f a b c d ≡ add_poly (first_of n xs f a b c d) (f x a b c d)
    sums_more n x there a b c d =
        let R = poly_ring.semiring in
        let g = λ (y : A). f y a b c d in
        ap (λ ys. sum R ys g) (take_more xs n x (slice_get_within xs n x there))
        ∙ sum-append R (take n xs) (get_or xs n x ∷ []) g
        ∙ ap (add_poly (sum R (take n xs) g)) (sum-one R (get_or xs n x) g ∙ ap g (get_or_from_slice_get xs n x x there))

    sums_all : (n : ℕ) → length xs ≤ n → (a b c d : Coordinate) → first_of n xs f a b c d ≡ sum poly_ring.semiring xs (λ x. f x a b c d)
    sums_all n past a b c d = ap (λ ys. sum poly_ring.semiring ys (λ x. f x a b c d)) (take_all n xs past)

    pub first_none : (values : List Value) → AddsFour model (first_of 0 xs f) values values
    first_none values = adds_none (first_of 0 xs f) values sums_none

    -- one element more
    pub first_more : (n : ℕ) (x : A) (old now new : List Value) → slice_get xs n ≡ Some x → AddsFour model (first_of n xs f) old now → AddsFour model (f x) now new → AddsFour model (first_of (n + 1) xs f) old new
    first_more n x old now new there so_far one =
        adds_same (λ a b c d. add_poly (first_of n xs f a b c d) (f x a b c d)) (first_of (n + 1) xs f) old new
        (λ a b c d. sym (sums_more n x there a b c d))
        (adds_both (first_of n xs f) (f x) old now new so_far one)

    pub first_all : (n : ℕ) (old new : List Value) → length xs ≤ n → AddsFour model (first_of n xs f) old new → AddsFour model (λ a b c d. sum poly_ring.semiring xs (λ x. f x a b c d)) old new
    first_all n old new past =
        adds_same (first_of n xs f) (λ a b c d. sum poly_ring.semiring xs (λ x. f x a b c d)) old new (sums_all n past)

    -- ---- and a function of them that respects sums, as a multiple

    module _ (h : Polynomial → Polynomial) (additive : IsAdditive h) where
      pub image_none : (values : List Value) → AddsFour model (λ a b c d. h (first_of 0 xs f a b c d)) values values
      image_none values =
          adds_none (λ a b c d. h (first_of 0 xs f a b c d)) values (λ a b c d. ap h (sums_none a b c d) ∙ additive.at_zero)

      pub image_more : (n : ℕ) (x : A) (old now new : List Value) → slice_get xs n ≡ Some x → AddsFour model (λ a b c d. h (first_of n xs f a b c d)) old now → AddsFour model (λ a b c d. h (f x a b c d)) now new
          → AddsFour model (λ a b c d. h (first_of (n + 1) xs f a b c d)) old new
      image_more n x old now new there so_far one =
          adds_same (λ a b c d. add_poly (h (first_of n xs f a b c d)) (h (f x a b c d))) (λ a b c d. h (first_of (n + 1) xs f a b c d)) old new
          (λ a b c d. sym (ap h (sums_more n x there a b c d) ∙ additive.at_add (first_of n xs f a b c d) (f x a b c d)))
          (adds_both (λ a b c d. h (first_of n xs f a b c d)) (λ a b c d. h (f x a b c d)) old now new so_far one)

      pub image_all : (n : ℕ) (old new : List Value) → length xs ≤ n → AddsFour model (λ a b c d. h (first_of n xs f a b c d)) old new → AddsFour model (λ a b c d. h (sum poly_ring.semiring xs (λ x. f x a b c d))) old new
      image_all n old new past =
          adds_same (λ a b c d. h (first_of n xs f a b c d)) (λ a b c d. h (sum poly_ring.semiring xs (λ x. f x a b c d))) old new (λ a b c d. ap h (sums_all n past a b c d))

  -- ---- sums over the first scalar components

  component_there : (n : ℕ) → n < length (scalar_components model) → slice_get (scalar_components model) n ≡ Some (get_or (scalar_components model) n nobody)
  component_there n inside = slice_get-get_or (scalar_components model) n nobody inside

  module _ (f : Coordinate → FourLegs) where
    pub over_none : (values : List Value) → AddsFour model (over_first 0 model f) values values
    over_none values = first_none (scalar_components model) (λ c. f (Of c)) values

    -- one component more
    pub over_more : (n : ℕ) (old now new : List Value) → n < length (scalar_components model) → AddsFour model (over_first n model f) old now → AddsFour model (f (coordinate_at model n)) now new → AddsFour model (over_first (n + 1) model f) old new
    over_more n old now new inside so_far one =
        first_more (scalar_components model) (λ c. f (Of c)) n (get_or (scalar_components model) n nobody) old now new (component_there n inside) so_far
        (subst (λ e. AddsFour model (f e) now new) (coordinate_first model n inside) one)

    pub over_all : (n : ℕ) (old new : List Value) → length (scalar_components model) ≤ n → AddsFour model (over_first n model f) old new → AddsFour model (λ a b c d. over_scalars model (λ e. f e a b c d)) old new
    over_all n old new past so_far = first_all (scalar_components model) (λ c. f (Of c)) n old new past so_far

    -- ---- and a function of them that respects sums, as a multiple

    module _ (h : Polynomial → Polynomial) (additive : IsAdditive h) where
      pub over_image_none : (values : List Value) → AddsFour model (λ a b c d. h (over_first 0 model f a b c d)) values values
      over_image_none values = image_none (scalar_components model) (λ c. f (Of c)) h additive values

      pub over_image_more : (n : ℕ) (old now new : List Value) → n < length (scalar_components model) → AddsFour model (λ a b c d. h (over_first n model f a b c d)) old now
          → AddsFour model (λ a b c d. h (f (coordinate_at model n) a b c d)) now new → AddsFour model (λ a b c d. h (over_first (n + 1) model f a b c d)) old new
      over_image_more n old now new inside so_far one =
          image_more (scalar_components model) (λ c. f (Of c)) h additive n (get_or (scalar_components model) n nobody) old now new (component_there n inside) so_far
          (subst (λ e. AddsFour model (λ a b c d. h (f e a b c d)) now new) (coordinate_first model n inside) one)

      pub over_image_all : (n : ℕ) (old new : List Value) → length (scalar_components model) ≤ n → AddsFour model (λ a b c d. h (over_first n model f a b c d)) old new
          → AddsFour model (λ a b c d. h (over_scalars model (λ e. f e a b c d))) old new
      over_image_all n old new past so_far =
          image_all (scalar_components model) (λ c. f (Of c)) h additive n old new past so_far
