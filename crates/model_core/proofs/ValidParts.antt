-- Lists of valid parts stay valid by a further valid part.
use Rattle.std.proofs.Common.{◌≡◌, ℕ, Bool, true, false, cond, not, List, [], ◌∷◌, ◌++◌, map, refl, ap, ap₂, ◌∙◌, arith}
use Rattle.std.specs.Prelude.{◌&&◌, ◌||◌, ◌==◌}
use Rattle.std.specs.List.{list_all, list_any}
use Rattle.std.specs.Str.{bytes_eq}
use Rattle.std.proofs.lemmas.Slice.Eq.{bytes_eq-Decides}
use Rattle.std.proofs.lemmas.List.{map-append}
use Rattle.std.proofs.lemmas.List.Folds.{list_all-append, list_any-append}
use Rattle.toml.specs.Data.{Members, get_member}
use Rattle.model_core.proofs.ValidLaws.{both}
use Rattle.su_reps.specs.declared.rep.Rep.{Rep}
use Rattle.su_reps.specs.declared.rep.Rep.TheVariants.{Singlet, Fund, Conj, Adjoint, Sym2, Sym2Conj, Anti2, Anti2Conj}
use Rattle.model_core.specs.declared.group.Group.{Group}
use Rattle.model_core.specs.declared.table.Entry.{Entry}
use Rattle.model_core.specs.Groups.{is_abelian}
use Rattle.model_core.specs.Valid.{entry_at, has_one_abelian, is_rep, are_reps, are_distinct}
use Rattle.model_core.specs.Document.{value_or, rep_of, rep_under, reps_of}

both_and : (a b : Bool) → a ≡ true → b ≡ true → (a && (b && true)) ≡ true
both_and true true first second = refl
both_and true false first second = second
both_and false b first second = first

pub list_all_push : {A : Type 0} (test : A → Bool) (xs : List A) (x : A) → list_all test xs ≡ true → test x ≡ true → list_all test (xs ++ x ∷ []) ≡ true
list_all_push test xs x all one = list_all-append test xs (x ∷ []) ∙ both_and (list_all test xs) (test x) all one

pub neither : (a b : Bool) → (a || b) ≡ false → (a ≡ false) × (b ≡ false)
neither true b e = let never : ⊥ = cc in absurd never
neither false b e = (refl, e)

none_more : (a b c : Bool) → not a ≡ true → b ≡ false → c ≡ true → (not (a || (b || false)) && c) ≡ true
none_more true b c first second third = let never : ⊥ = cc in absurd never
none_more false true c first second third = let never : ⊥ = cc in absurd never
none_more false false c first second third = third

turned : (a b : List ℕ) → bytes_eq a b ≡ false → bytes_eq b a ≡ false
turned a b other = grind (arith, bytes_eq-Decides)

-- a new name keeps names distinct
pub distinct_push : (names : List (List ℕ)) (name : List ℕ) → are_distinct names ≡ true → list_any (bytes_eq name) names ≡ false → are_distinct (names ++ name ∷ []) ≡ true
distinct_push [] name distinct fresh = refl
distinct_push (first ∷ names) name distinct fresh =
    let apart = both (not (list_any (bytes_eq first) names)) (are_distinct names) distinct in
    let new = neither (bytes_eq name first) (list_any (bytes_eq name) names) fresh in
    ap (λ b. not b && are_distinct (names ++ name ∷ [])) (list_any-append (bytes_eq first) names (name ∷ []))
    ∙ none_more (list_any (bytes_eq first) names) (bytes_eq first name) (are_distinct (names ++ name ∷ [])) apart.0 (turned name first new.0) (distinct_push names name apart.1 new.1)

-- a new entry keeps the places of entries distinct
pub entry_push : (entries : List Entry) (entry : Entry) → are_distinct (map entry_at entries) ≡ true → list_any (bytes_eq entry.at) (map entry_at entries) ≡ false
    → are_distinct (map entry_at (entries ++ entry ∷ [])) ≡ true
entry_push entries entry distinct fresh =
    ap are_distinct (map-append entry_at entries (entry ∷ [])) ∙ distinct_push (map entry_at entries) entry.at distinct fresh

no_other : (first some new rest : Bool) → not (first && some) ≡ true → (new && (first || some)) ≡ false → rest ≡ true → (not (first && (some || (new || false))) && rest) ≡ true
no_other false some new rest one single third = third
no_other true true new rest one single third = let never : ⊥ = cc in absurd never
no_other true false true rest one single third = let never : ⊥ = cc in absurd never
no_other true false false rest one single third = third

still_single : (first some new : Bool) → (new && (first || some)) ≡ false → (new && some) ≡ false
still_single first some false single = refl
still_single true some true single = let never : ⊥ = cc in absurd never
still_single false some true single = single

-- no second U(1)
pub abelian_push : (groups : List Group) (group : Group) → has_one_abelian groups ≡ true → (group.n == 1 && list_any is_abelian groups) ≡ false
    → has_one_abelian (groups ++ group ∷ []) ≡ true
abelian_push [] group one single = no_pair (is_abelian group)
  where
    no_pair : (b : Bool) → (not (b && false) && true) ≡ true
    no_pair true = refl
    no_pair false = refl
abelian_push (first ∷ groups) group one single =
    let parts = both (not (is_abelian first && list_any is_abelian groups)) (has_one_abelian groups) one in
    let some = list_any is_abelian groups in
    ap (λ b. not (is_abelian first && b) && has_one_abelian (groups ++ group ∷ [])) (list_any-append is_abelian groups (group ∷ []))
    ∙ no_other (is_abelian first) some (is_abelian group) (has_one_abelian (groups ++ group ∷ [])) parts.0 single
    (abelian_push groups group parts.1 (still_single (is_abelian first) some (is_abelian group) single))

singlet_of_abelian : (group : Group) (rep : Rep) → is_abelian group ≡ false → is_rep group rep ≡ true
singlet_of_abelian group Singlet other = refl
singlet_of_abelian group Fund other = ap not other
singlet_of_abelian group Conj other = ap not other
singlet_of_abelian group Adjoint other = ap not other
singlet_of_abelian group Sym2 other = ap not other
singlet_of_abelian group Sym2Conj other = ap not other
singlet_of_abelian group Anti2 other = ap not other
singlet_of_abelian group Anti2Conj other = ap not other

-- what a table gives is a representation for each group, the singlet for the U(1)
rep_under-fits : (members : Members) (group : Group) → is_rep group (rep_under members group) ≡ true
rep_under-fits members group = by_kind (is_abelian group) refl
  where
    by_kind : (b : Bool) → is_abelian group ≡ b → is_rep group (cond b Singlet (value_or rep_of Singlet (get_member group.name members))) ≡ true
    by_kind true is = refl
    by_kind false is = singlet_of_abelian group (value_or rep_of Singlet (get_member group.name members)) is

pub reps_fit : (groups : List Group) (members : Members) → are_reps groups (reps_of groups members) ≡ true
reps_fit [] _ = refl
reps_fit (group ∷ groups) members = ap₂ ◌&&◌ (rep_under-fits members group) (reps_fit groups members)
