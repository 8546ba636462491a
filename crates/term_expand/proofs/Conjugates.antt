-- Conjugates of tensors: keys with the partners of scalars, and the values there.
use Rattle.std.specs.Prelude.{◌≡◌, ◌<◌, ◌≤◌, ◌+◌, ℕ, zero, suc, ⊤, false, List, [], ◌∷◌, ◌++◌, map, length, replicate, slice_get, Option, Some, None, option_map}
use Rattle.std.specs.List.{All}
use Rattle.std.proofs.Common.{take, drop, get_or, subst, refl, sym, ap, ap₂, ◌∙◌, arith, true≢false, Equal}
use Rattle.std.proofs.lemmas.Cmp.{nat_list_cmp_total, tied_itself}
use Rattle.std.proofs.lemmas.List.{length-take-le, take_more, take_all}
use Rattle.std.proofs.lemmas.Option.{slice_get_within, get_or_from_slice_get}
use Rattle.exact_algebra.specs.Formal.{coefficient-cons, coefficient-nil}
use Rattle.exact_algebra.specs.Maps.{const-zero}
use Rattle.exact_algebra.specs.Ring.{zero_add}
use Rattle.exact_algebra.specs.Sums.{sum-nil, sum-cons, where_equal, where_equal-apart}
use Rattle.exact_algebra.specs.Kronecker.{where_same}
use Rattle.exact_algebra.specs.TensorContraction.{places_keys, places_cmp, places_equal}
use Rattle.frac128.specs.Rational.{zero_ℚ}
use Rattle.frac128.specs.RationalLaws.{ring_ℚ}
use Rattle.beta_poly.specs.Monomial.{monomials}
use Rattle.beta_poly.specs.Polynomial.{Polynomial, poly_ring, zero_test, add_poly, zero_poly, constant}
use Rattle.beta_poly.proofs.Steps.{at_number, coefficient_at, nonzero_at}
use Rattle.sparse_tensor.specs.declared.values.Value.{Value}
use Rattle.sparse_tensor.specs.Tensor.{Tensor, Entries, HasRank, HasValues, poly_zero_test, rank_of, entries_of, value, value_in}
use Rattle.sparse_tensor.specs.Operations.{entry, gathered_at}
use Rattle.model_core.specs.declared.model.Model.{Model}
use Rattle.model_core.specs.declared.term.TermKind.{TermKind}
use Rattle.model_core.specs.declared.term.TermKind.TheVariants.{Fermion, Scalar}
use Rattle.model_core.specs.Scalar.{Coordinate, scalar_coordinates, partner}
use Rattle.model_core.specs.TermTensor.{Numbers, legs_of, fermion_coordinates, with_coordinate, coordinates_at, at_places, value_or}
use Rattle.model_core.specs.Directions.{conjugated}
use Rattle.model_core.specs.Valid.{IsValid}
use Rattle.model_core.proofs.CoordinateLaws.{TellsPlaces, partner_twice, partner_place, fermion_told, scalar_told}
use Rattle.term_expand.specs.Texts.{leg_count}
use Rattle.term_expand.specs.Multiples.{HasNumbers, HasSomeNumbers, HasCoordinates, IsPlace, first_scalar, partners}

-- ---- the coordinates at a key

same_some : {A : Type 0} (x y : A) → Some x ≡ Some y → x ≡ y
same_some x y e = cc

some_none : {A : Type 0} (x : A) → Some x ≡ None → ⊥
some_none x e = cc

key_same : (a b : List ℕ) → a ≡ b → places_cmp a b ≡ Equal
key_same a b e = ap (places_cmp a) (sym e) ∙ tied_itself nat_list_cmp_total a

not_zero : (p : Polynomial) → poly_zero_test.is_zero p ≡ false → p ≡ zero_poly → ⊥
not_zero p h e = true≢false (sym poly_zero_test.at_zero ∙ ap poly_zero_test.is_zero (sym e) ∙ h)

record Parts (c : Option Coordinate) (rest : Option (List Coordinate)) (cs : List Coordinate) : Type 0 where
  first : Coordinate
  others : List Coordinate
  is_first : c ≡ Some first
  are_others : rest ≡ Some others
  all : cs ≡ first ∷ others

parts : (c : Option Coordinate) (rest : Option (List Coordinate)) (cs : List Coordinate) → with_coordinate c rest ≡ Some cs → Parts c rest cs
parts (Some c) (Some rest) cs e = record { first = c; others = rest; is_first = refl; are_others = refl; all = sym (same_some (c ∷ rest) cs e) }
parts (Some c) None cs e = absurd (some_none cs (sym e))
parts None (Some rest) cs e = absurd (some_none cs (sym e))
parts None None cs e = absurd (some_none cs (sym e))

AllTell : List (List Coordinate) → Type 0
AllTell [] = ⊤
AllTell (leg ∷ legs) = TellsPlaces leg × AllTell legs

-- a key is told by its coordinates
key_told : (legs : List (List Coordinate)) (k l : List ℕ) (cs : List Coordinate) → AllTell legs → coordinates_at legs k ≡ Some cs → coordinates_at legs l ≡ Some cs → k ≡ l
unfolding AllTell
key_told [] [] [] cs tell here there = refl
key_told [] [] (q ∷ l) cs tell here there = absurd (some_none cs (sym there))
key_told [] (p ∷ k) l cs tell here there = absurd (some_none cs (sym here))
key_told (leg ∷ legs) [] l cs tell here there = absurd (some_none cs (sym here))
key_told (leg ∷ legs) (p ∷ k) [] cs tell here there = absurd (some_none cs (sym there))
key_told (leg ∷ legs) (p ∷ k) (q ∷ l) cs tell here there =
    let first = parts (slice_get leg p) (coordinates_at legs k) cs here in
    let second = parts (slice_get leg q) (coordinates_at legs l) cs there in
    let same : first.first ∷ first.others ≡ second.first ∷ second.others = sym first.all ∙ second.all in
    ap₂ (λ x xs. x ∷ xs)
    (tell.0 p q first.first first.is_first (second.is_first ∙ ap Some (sym (same_first first.first second.first first.others second.others same))))
    (key_told legs k l first.others tell.1 first.are_others (second.are_others ∙ ap Some (sym (same_others first.first second.first first.others second.others same))))
  where
    same_first : (c d : Coordinate) (cs ds : List Coordinate) → c ∷ cs ≡ d ∷ ds → c ≡ d
    same_first c d cs ds e = cc

    same_others : (c d : Coordinate) (cs ds : List Coordinate) → c ∷ cs ≡ d ∷ ds → cs ≡ ds
    same_others c d cs ds e = cc

-- a key has a place for each leg
pub key_length : (legs : List (List Coordinate)) (k : List ℕ) (cs : List Coordinate) → coordinates_at legs k ≡ Some cs → (length k ≡ length legs) × (length cs ≡ length legs)
key_length [] [] cs here = (refl, sym (ap length (same_some [] cs here)))
key_length [] (p ∷ k) cs here = absurd (some_none cs (sym here))
key_length (leg ∷ legs) [] cs here = absurd (some_none cs (sym here))
key_length (leg ∷ legs) (p ∷ k) cs here =
    let at = parts (slice_get leg p) (coordinates_at legs k) cs here in
    let rest = key_length legs k at.others at.are_others in
    (ap suc rest.0, ap length at.all ∙ ap suc rest.1)

pub leg_number : (model : Model) (kind : TermKind) → length (legs_of model kind) ≡ leg_count kind
leg_number model Fermion = refl
leg_number model Scalar = refl

all_tell : (model : Model) (kind : TermKind) → IsValid model → AllTell (legs_of model kind)
unfolding AllTell
all_tell model Fermion valid = (fermion_told model valid, (fermion_told model valid, (scalar_told model valid, tt)))
all_tell model Scalar valid = (scalar_told model valid, (scalar_told model valid, (scalar_told model valid, (scalar_told model valid, tt))))

-- ---- partners of a key

-- the places of a key before the first scalar, and then the partners
abbrev pub ArePartners : List Coordinate → List ℕ → List ℕ → ℕ → Type 0
ArePartners leg [] [] first = ⊤
ArePartners leg (p ∷ key) (q ∷ found) zero = (slice_get leg q ≡ option_map partner (slice_get leg p)) × ArePartners leg key found zero
ArePartners leg (p ∷ key) (q ∷ found) (suc first) = (q ≡ p) × ArePartners leg key found first
ArePartners leg _ _ _ = ⊥

-- one place more
pub partners_push : (leg : List Coordinate) (key found : List ℕ) (first p q : ℕ) → ArePartners leg key found first → IsPlace leg first (length key) p q → ArePartners leg (key ++ p ∷ []) (found ++ q ∷ []) first
partners_push leg [] [] zero p q so_far next = (next.behind (omega arith), tt)
partners_push leg [] [] (suc first) p q so_far next = (next.before (omega arith), tt)
partners_push leg [] (y ∷ found) first p q so_far next = absurd so_far
partners_push leg (x ∷ key) [] first p q so_far next = absurd so_far
partners_push leg (x ∷ key) (y ∷ found) zero p q so_far next =
    (so_far.0, partners_push leg key found zero p q so_far.1 (record { before = λ h. absurd (omega (arith, h)); behind = λ h. next.behind (omega arith) }))
partners_push leg (x ∷ key) (y ∷ found) (suc first) p q so_far next =
    (so_far.0, partners_push leg key found first p q so_far.1 (record { before = λ h. next.before (omega (arith, h)); behind = λ h. next.behind (omega (arith, h)) }))

-- the same over a loop's places
pub partners_step : (leg : List Coordinate) (key found new : List ℕ) (first i q : ℕ) → i < length key → ArePartners leg (take i key) found first → IsPlace leg first i (get_or key i 0) q → new ≡ found ++ q ∷ [] → ArePartners leg (take (i + 1) key) new first
partners_step leg key found new first i q within so_far next is =
    let front = take i key in
    let counted : length front ≡ i = length-take-le i key (omega (arith, within)) in
    let pushed = partners_push leg front found first (get_or key i 0) q so_far (subst (λ n. IsPlace leg first n (get_or key i 0) q) (sym counted) next) in
    subst (λ xs. ArePartners leg xs new first) (sym (take_more key i 0 within)) (subst (λ ys. ArePartners leg (front ++ get_or key i 0 ∷ []) ys first) (sym is) pushed)

scalar_option : (c : Option Coordinate) (rest : Option (List Coordinate)) → with_coordinate (option_map partner c) (option_map (map partner) rest) ≡ option_map (map partner) (with_coordinate c rest)
scalar_option (Some c) (Some rest) = refl
scalar_option (Some c) None = refl
scalar_option None (Some rest) = refl
scalar_option None None = refl

fermion_option : (c d : Option Coordinate) (rest : Option (List Coordinate)) → with_coordinate c (with_coordinate d (option_map (map partner) rest)) ≡ option_map (partners Fermion) (with_coordinate c (with_coordinate d rest))
fermion_option (Some c) (Some d) (Some rest) = refl
fermion_option (Some c) (Some d) None = refl
fermion_option (Some c) None (Some rest) = refl
fermion_option (Some c) None None = refl
fermion_option None (Some d) (Some rest) = refl
fermion_option None (Some d) None = refl
fermion_option None None (Some rest) = refl
fermion_option None None None = refl

scalars_at : (leg : List Coordinate) (n : ℕ) (key found : List ℕ) → ArePartners leg key found 0 → coordinates_at (replicate n leg) found ≡ option_map (map partner) (coordinates_at (replicate n leg) key)
scalars_at leg zero [] [] h = refl
scalars_at leg (suc n) [] [] h = refl
scalars_at leg n [] (q ∷ found) h = absurd h
scalars_at leg n (p ∷ key) [] h = absurd h
scalars_at leg zero (p ∷ key) (q ∷ found) h = refl
scalars_at leg (suc n) (p ∷ key) (q ∷ found) h =
    ap₂ with_coordinate h.0 (scalars_at leg n key found h.1) ∙ scalar_option (slice_get leg p) (coordinates_at (replicate n leg) key)

fermions_at : (first leg : List Coordinate) (key found : List ℕ) → ArePartners leg key found 2
    → coordinates_at (first ∷ first ∷ leg ∷ []) found ≡ option_map (partners Fermion) (coordinates_at (first ∷ first ∷ leg ∷ []) key)
fermions_at first leg [] [] h = refl
fermions_at first leg [] (q ∷ found) h = absurd h
fermions_at first leg (p ∷ key) [] h = absurd h
fermions_at first leg (p ∷ []) (q ∷ []) h = ap (λ x. with_coordinate (slice_get first x) None) h.0 ∙ no_rest (slice_get first p)
  where
    no_rest : (c : Option Coordinate) → with_coordinate c None ≡ option_map (partners Fermion) (with_coordinate c None)
    no_rest (Some c) = refl
    no_rest None = refl
fermions_at first leg (p ∷ []) (q ∷ r ∷ found) h = absurd h.1
fermions_at first leg (p ∷ s ∷ key) (q ∷ []) h = absurd h.1
fermions_at first leg (p ∷ s ∷ key) (q ∷ r ∷ found) h =
    ap₂ (λ x y. with_coordinate (slice_get first x) (with_coordinate (slice_get first y) (coordinates_at (leg ∷ []) found))) h.0 h.1.0
    ∙ ap (λ rest. with_coordinate (slice_get first p) (with_coordinate (slice_get first s) rest)) (scalars_at leg 1 key found h.1.1)
    ∙ fermion_option (slice_get first p) (slice_get first s) (coordinates_at (leg ∷ []) key)

-- the coordinates of the partners
pub partners_at : (model : Model) (kind : TermKind) (key found : List ℕ) → ArePartners (scalar_coordinates model) key found (first_scalar kind)
    → coordinates_at (legs_of model kind) found ≡ option_map (partners kind) (coordinates_at (legs_of model kind) key)
partners_at model Fermion key found h = fermions_at (fermion_coordinates model) (scalar_coordinates model) key found h
partners_at model Scalar key found h = scalars_at (scalar_coordinates model) 4 key found h

pub partners_end : (model : Model) (kind : TermKind) (key found : List ℕ) (first i : ℕ) → length key ≤ i → first ≡ first_scalar kind → ArePartners (scalar_coordinates model) (take i key) found first
    → coordinates_at (legs_of model kind) found ≡ option_map (partners kind) (coordinates_at (legs_of model kind) key)
partners_end model kind key found first i over is all =
    partners_at model kind key found (subst (λ xs. ArePartners (scalar_coordinates model) xs found (first_scalar kind)) (take_all i key over) (subst (ArePartners (scalar_coordinates model) (take i key) found) is all))

-- the places of a key's scalars are those of coordinates
scalar_inside : (leg : List Coordinate) (n : ℕ) (key : List ℕ) (cs : List Coordinate) (i p : ℕ) → coordinates_at (replicate n leg) key ≡ Some cs → slice_get key i ≡ Some p → p < length leg
scalar_inside leg zero [] cs i p here found = let never : ⊥ = cc in absurd never
scalar_inside leg zero (x ∷ key) cs i p here found = absurd (some_none cs (sym here))
scalar_inside leg (suc n) [] cs i p here found = absurd (some_none cs (sym here))
scalar_inside leg (suc n) (x ∷ key) cs zero p here found =
    let at = parts (slice_get leg x) (coordinates_at (replicate n leg) key) cs here in
    slice_get_within leg p at.first (ap (slice_get leg) (sym (same_some x p found)) ∙ at.is_first)
scalar_inside leg (suc n) (x ∷ key) cs (suc i) p here found =
    let at = parts (slice_get leg x) (coordinates_at (replicate n leg) key) cs here in
    scalar_inside leg n key at.others i p at.are_others found

fermion_inside : (first leg : List Coordinate) (key : List ℕ) (cs : List Coordinate) (i p : ℕ) → coordinates_at (first ∷ first ∷ leg ∷ []) key ≡ Some cs → slice_get key i ≡ Some p → 2 ≤ i → p < length leg
fermion_inside first leg key cs zero p here found behind = absurd (omega (arith, behind))
fermion_inside first leg key cs (suc zero) p here found behind = absurd (omega (arith, behind))
fermion_inside first leg [] cs (suc (suc i)) p here found behind = absurd (some_none cs (sym here))
fermion_inside first leg (x ∷ []) cs (suc (suc i)) p here found behind = let never : ⊥ = cc in absurd never
fermion_inside first leg (x ∷ y ∷ key) cs (suc (suc i)) p here found behind =
    let at = parts (slice_get first x) (with_coordinate (slice_get first y) (coordinates_at (leg ∷ []) key)) cs here in
    let next = parts (slice_get first y) (coordinates_at (leg ∷ []) key) at.others at.are_others in
    scalar_inside leg 1 key next.others i p next.are_others found

pub place_inside : (model : Model) (kind : TermKind) (key : List ℕ) (i p : ℕ) → HasCoordinates model kind key → slice_get key i ≡ Some p → first_scalar kind ≤ i → p < length (scalar_coordinates model)
place_inside model Fermion key i p inside found behind = fermion_inside (fermion_coordinates model) (scalar_coordinates model) key inside.coordinates i p inside.at found behind
place_inside model Scalar key i p inside found behind = scalar_inside (scalar_coordinates model) 4 key inside.coordinates i p inside.at found

-- ---- values at partners

map_twice : (cs : List Coordinate) → map partner (map partner cs) ≡ cs
map_twice [] = refl
map_twice (c ∷ cs) = ap₂ (λ x xs. x ∷ xs) (partner_twice c) (map_twice cs)

partners_twice : (kind : TermKind) (cs : List Coordinate) → partners kind (partners kind cs) ≡ cs
partners_twice Fermion [] = refl
partners_twice Fermion (j ∷ []) = refl
partners_twice Fermion (j ∷ k ∷ cs) = ap (λ xs. j ∷ k ∷ xs) (map_twice cs)
partners_twice Scalar cs = map_twice cs

-- a key with the partners of a key's scalars
scalars_exist : (model : Model) (n : ℕ) (key : List ℕ) (cs : List Coordinate) → IsValid model → coordinates_at (replicate n (scalar_coordinates model)) key ≡ Some cs → (k : List ℕ) × (coordinates_at (replicate n (scalar_coordinates model)) k ≡ Some (map partner cs))
scalars_exist model zero [] cs valid here = ([], ap (option_map (map partner)) here)
scalars_exist model zero (p ∷ key) cs valid here = absurd (some_none cs (sym here))
scalars_exist model (suc n) [] cs valid here = absurd (some_none cs (sym here))
scalars_exist model (suc n) (p ∷ key) cs valid here =
    let leg = scalar_coordinates model in
    let at = parts (slice_get leg p) (coordinates_at (replicate n leg) key) cs here in
    let rest = scalars_exist model n key at.others valid at.are_others in
    let other = partner_place model valid p at.first at.is_first in
    (other.0 ∷ rest.0, ap₂ with_coordinate other.1 rest.1 ∙ ap (λ xs. Some (map partner xs)) (sym at.all))

partners_exist : (model : Model) (kind : TermKind) (key : List ℕ) (cs : List Coordinate) → IsValid model → coordinates_at (legs_of model kind) key ≡ Some cs → (k : List ℕ) × (coordinates_at (legs_of model kind) k ≡ Some (partners kind cs))
partners_exist model Scalar key cs valid here = scalars_exist model 4 key cs valid here
partners_exist model Fermion [] cs valid here = absurd (some_none cs (sym here))
partners_exist model Fermion (p ∷ []) cs valid here =
    let at = parts (slice_get (fermion_coordinates model) p) None cs here in
    absurd (some_none at.others (sym at.are_others))
partners_exist model Fermion (p ∷ q ∷ key) cs valid here =
    let leg = fermion_coordinates model in
    let others = coordinates_at (scalar_coordinates model ∷ []) key in
    let at = parts (slice_get leg p) (with_coordinate (slice_get leg q) others) cs here in
    let next = parts (slice_get leg q) others at.others at.are_others in
    let rest = scalars_exist model 1 key next.others valid next.are_others in
    (p ∷ q ∷ rest.0, ap₂ with_coordinate at.is_first (ap₂ with_coordinate next.is_first rest.1) ∙ ap (λ xs. Some (partners Fermion xs)) (sym (at.all ∙ ap (λ xs. at.first ∷ xs) next.all)))

-- an entry with the partners of its key's scalars
pub record IsConjugate (model : Model) (kind : TermKind) (e : List ℕ × Polynomial) (v : Value) : Type 0 where
  pub inside : HasCoordinates model kind e.0
  pub key : coordinates_at (legs_of model kind) v.key ≡ option_map (partners kind) (coordinates_at (legs_of model kind) e.0)
  pub value : v.value ≡ e.1

-- one by one
abbrev pub AreConjugates : Model → TermKind → Entries → List Value → Type 0
AreConjugates model kind [] [] = ⊤
AreConjugates model kind (e ∷ es) (v ∷ vs) = IsConjugate model kind e v × AreConjugates model kind es vs
AreConjugates model kind _ _ = ⊥

pub conjugates_push : (model : Model) (kind : TermKind) (es : Entries) (vs : List Value) (e : List ℕ × Polynomial) (v : Value) → AreConjugates model kind es vs → IsConjugate model kind e v → AreConjugates model kind (es ++ e ∷ []) (vs ++ v ∷ [])
conjugates_push model kind [] [] e v so_far next = (next, tt)
conjugates_push model kind [] (w ∷ vs) e v so_far next = absurd so_far
conjugates_push model kind (d ∷ es) [] e v so_far next = absurd so_far
conjugates_push model kind (d ∷ es) (w ∷ vs) e v so_far next = (so_far.0, conjugates_push model kind es vs e v so_far.1 next)

pub conjugates_step : (model : Model) (kind : TermKind) (es : Entries) (vs new : List Value) (i : ℕ) (e : List ℕ × Polynomial) (v : Value) → slice_get es i ≡ Some e → AreConjugates model kind (take i es) vs → IsConjugate model kind e v → new ≡ vs ++ v ∷ [] → AreConjugates model kind (take (i + 1) es) new
conjugates_step model kind es vs new i e v found so_far next is =
    let more : take (i + 1) es ≡ take i es ++ e ∷ [] = take_more es i e (slice_get_within es i e found) ∙ ap (λ d. take i es ++ d ∷ []) (get_or_from_slice_get es i e e found) in
    subst (λ xs. AreConjugates model kind xs new) (sym more) (subst (AreConjugates model kind (take i es ++ e ∷ [])) (sym is) (conjugates_push model kind (take i es) vs e v so_far next))

pub conjugates_end : (model : Model) (kind : TermKind) (es : Entries) (vs : List Value) (i : ℕ) → length es ≤ i → AreConjugates model kind (take i es) vs → AreConjugates model kind es vs
conjugates_end model kind es vs i over all = subst (λ xs. AreConjugates model kind xs vs) (take_all i es over) all

module _ (model : Model) (kind : TermKind) where
  key_of_value : (e : List ℕ × Polynomial) (v : Value) → (c : IsConjugate model kind e v) → coordinates_at (legs_of model kind) v.key ≡ Some (partners kind c.inside.coordinates)
  key_of_value e v c = c.key ∙ ap (option_map (partners kind)) c.inside.at

  -- each key has a place for each leg
  pub conjugate_keys : (es : Entries) (vs : List Value) → AreConjugates model kind es vs → All (λ v. length v.key ≡ leg_count kind) vs
  conjugate_keys [] [] all i d within = absurd (omega (arith, within))
  conjugate_keys [] (v ∷ vs) all i d within = absurd all
  conjugate_keys (e ∷ es) [] all i d within = absurd all
  conjugate_keys (e ∷ es) (v ∷ vs) all zero d within = (key_length (legs_of model kind) v.key (partners kind all.0.inside.coordinates) (key_of_value e v all.0)).0 ∙ leg_number model kind
  conjugate_keys (e ∷ es) (v ∷ vs) all (suc i) d within = conjugate_keys es vs all.1 i d (omega arith)

  -- nothing stands at a key outside of the legs
  gathered_outside : (es : Entries) (vs : List Value) (q : List ℕ) → AreConjugates model kind es vs → coordinates_at (legs_of model kind) q ≡ None → gathered_at (map entry vs) q ≡ zero_poly
  unfolding gathered_at
  gathered_outside [] [] q all outside = sum-nil poly_ring.semiring (λ e. where_equal poly_ring.semiring (places_cmp q e.0) e.1)
  gathered_outside [] (v ∷ vs) q all outside = absurd all
  gathered_outside (e ∷ es) [] q all outside = absurd all
  gathered_outside (e ∷ es) (v ∷ vs) q all outside =
      sum-cons poly_ring.semiring (entry v) (map entry vs) (λ e. where_equal poly_ring.semiring (places_cmp q e.0) e.1)
      ∙ ap₂ add_poly (where_equal-apart poly_ring.semiring (places_cmp q v.key) v.value (λ h. some_none (partners kind all.0.inside.coordinates) (sym (key_of_value e v all.0) ∙ ap (coordinates_at (legs_of model kind)) (sym (places_equal q v.key h)) ∙ outside))) (gathered_outside es vs q all.1 outside)
      ∙ zero_add poly_ring.semiring zero_poly

  -- the sum at a key is the value at the partners of its scalars
  gathered_inside : (es : Entries) (vs : List Value) (q k : List ℕ) (cs : List Coordinate) → IsValid model → AreConjugates model kind es vs → coordinates_at (legs_of model kind) q ≡ Some cs → coordinates_at (legs_of model kind) k ≡ Some (partners kind cs)
      → gathered_at (map entry vs) q ≡ value_in es k
  unfolding gathered_at
  gathered_inside [] [] q k cs valid all here there =
      sum-nil poly_ring.semiring (λ e. where_equal poly_ring.semiring (places_cmp q e.0) e.1) ∙ sym (coefficient-nil places_keys poly_ring.semiring poly_zero_test k)
  gathered_inside [] (v ∷ vs) q k cs valid all here there = absurd all
  gathered_inside (e ∷ es) [] q k cs valid all here there = absurd all
  gathered_inside (e ∷ es) (v ∷ vs) q k cs valid all here there =
      sum-cons poly_ring.semiring (entry v) (map entry vs) (λ e. where_equal poly_ring.semiring (places_cmp q e.0) e.1)
      ∙ ap₂ add_poly
      (where_same poly_ring.semiring (places_cmp q v.key) (places_cmp k e.0) v.value to_entry to_value ∙ ap (where_equal poly_ring.semiring (places_cmp k e.0)) all.0.value)
      (gathered_inside es vs q k cs valid all.1 here there)
      ∙ sym (coefficient-cons places_keys poly_ring.semiring poly_zero_test e es k)
    where
      to_entry : places_cmp q v.key ≡ Equal → places_cmp k e.0 ≡ Equal
      to_entry h =
          let same : cs ≡ partners kind all.0.inside.coordinates = same_some cs _ (sym here ∙ ap (coordinates_at (legs_of model kind)) (places_equal q v.key h) ∙ key_of_value e v all.0) in
          let back : partners kind cs ≡ all.0.inside.coordinates = ap (partners kind) same ∙ partners_twice kind all.0.inside.coordinates in
          key_same k e.0 (key_told (legs_of model kind) k e.0 (partners kind cs) (all_tell model kind valid) there (all.0.inside.at ∙ ap Some (sym back)))

      to_value : places_cmp k e.0 ≡ Equal → places_cmp q v.key ≡ Equal
      to_value h =
          let same : partners kind cs ≡ all.0.inside.coordinates = same_some (partners kind cs) _ (sym there ∙ ap (coordinates_at (legs_of model kind)) (places_equal k e.0 h) ∙ all.0.inside.at) in
          let back : cs ≡ partners kind all.0.inside.coordinates = sym (partners_twice kind cs) ∙ ap (partners kind) same in
          key_same q v.key (key_told (legs_of model kind) q v.key cs (all_tell model kind valid) here (key_of_value e v all.0 ∙ ap Some (sym back)))

conjugated_is : (kind : TermKind) (f : Numbers) (cs : List Coordinate) → length cs ≡ leg_count kind → conjugated kind f cs ≡ f (partners kind cs)
conjugated_is Fermion f [] l = absurd (omega (arith, l))
conjugated_is Fermion f (j ∷ []) l = absurd (omega (arith, l))
conjugated_is Fermion f (j ∷ k ∷ []) l = absurd (omega (arith, l))
conjugated_is Fermion f (j ∷ k ∷ a ∷ []) l = refl
conjugated_is Fermion f (j ∷ k ∷ a ∷ b ∷ cs) l = absurd (omega (arith, l))
conjugated_is Scalar f cs l = refl

-- the conjugate's numbers
conjugate_value : (model : Model) (kind : TermKind) (f : Numbers) (t : Tensor) (vs : List Value) (q : List ℕ) (o : Option (List Coordinate)) → IsValid model → HasNumbers model kind f t → AreConjugates model kind (entries_of t) vs → coordinates_at (legs_of model kind) q ≡ o
    → gathered_at (map entry vs) q ≡ constant (value_or zero_ℚ (conjugated kind f) o)
conjugate_value model kind f t vs q None valid has all at = gathered_outside model kind (entries_of t) vs q all at ∙ sym (const-zero monomials ring_ℚ.semiring zero_test)
conjugate_value model kind f t vs q (Some cs) valid has all at =
    let other = partners_exist model kind q cs valid at in
    let sizes = key_length (legs_of model kind) q cs at in
    let size = (key_length (legs_of model kind) other.0 (partners kind cs) other.1).0 ∙ leg_number model kind in
    gathered_inside model kind (entries_of t) vs q other.0 cs valid all at other.1
    ∙ has.value_is other.0 size
    ∙ ap (λ p. constant (value_or zero_ℚ f p)) other.1
    ∙ ap constant (sym (conjugated_is kind f cs (sizes.1 ∙ leg_number model kind)))

pub has_conjugate : (model : Model) (kind : TermKind) (f : Numbers) (t : Tensor) (vs : List Value) (rank : ℕ) (found : Tensor) → IsValid model → HasNumbers model kind f t → AreConjugates model kind (entries_of t) vs → rank ≡ rank_of t → HasValues rank (gathered_at (map entry vs)) found
    → HasNumbers model kind (conjugated kind f) found
has_conjugate model kind f t vs rank found valid has all is gathered =
    record {
      rank_is = gathered.rank_is ∙ is ∙ has.rank_is;
      value_is = λ q l. gathered.value_is q (l ∙ sym (is ∙ has.rank_is)) ∙ conjugate_value model kind f t vs q (coordinates_at (legs_of model kind) q) valid has all refl;
    }

-- ---- the places of an entry

inside_at : (model : Model) (kind : TermKind) (f : Numbers) (key : List ℕ) (o : Option (List Coordinate)) → coordinates_at (legs_of model kind) key ≡ o → (constant (at_places zero_ℚ (legs_of model kind) f key) ≡ zero_poly → ⊥) → HasCoordinates model kind key
inside_at model kind f key None at nonzero = absurd (nonzero (ap (λ o. constant (value_or zero_ℚ f o)) at ∙ const-zero monomials ring_ℚ.semiring zero_test))
inside_at model kind f key (Some cs) at nonzero = record { coordinates = cs; at = at }

-- an entry's value isn't 0, so its places are some of the legs'
pub entry_inside : (model : Model) (kind : TermKind) (t : Tensor) (i : ℕ) (e : List ℕ × Polynomial) → HasSomeNumbers model kind t → slice_get (entries_of t) i ≡ Some e → HasCoordinates model kind e.0
entry_inside model kind t i e some found =
    let es = entries_of t in
    let within = slice_get_within es i e found in
    let is : get_or es i e ≡ e = get_or_from_slice_get es i e e found in
    let there : drop i es ≡ e ∷ drop (i + 1) es = at_number es i e within ∙ ap (λ d. d ∷ drop (i + 1) es) is in
    let rank : length e.0 ≡ rank_of t = key_at (rank_of t) es i e t.1.keys found in
    let own : value t e.0 ≡ e.1 = coefficient_at places_keys poly_ring.semiring poly_zero_test es i e there t.1.is_map in
    inside_at model kind some.numbers e.0 (coordinates_at (legs_of model kind) e.0) refl
    (λ none. not_zero e.1 (nonzero_at places_keys poly_ring.semiring poly_zero_test es i e there t.1.is_map) (sym own ∙ some.has.value_is e.0 (rank ∙ some.has.rank_is) ∙ none))
  where
    key_at : (rank : ℕ) (es : Entries) (i : ℕ) (e : List ℕ × Polynomial) → HasRank rank es → slice_get es i ≡ Some e → length e.0 ≡ rank
    key_at rank [] i e keys found = let never : ⊥ = cc in absurd never
    key_at rank (d ∷ es) zero e keys found = ap (λ x. length x.0) (sym (same_some d e found)) ∙ keys.0
    key_at rank (d ∷ es) (suc i) e keys found = key_at rank es i e keys.1 found
