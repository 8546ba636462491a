-- The labels of a monomial are numbered by their first places.
use Rattle.std.proofs.Common.{◌≡◌, ℕ, suc, ◌+◌, ◌<◌, Bool, true, false, List, [], ◌∷◌, ◌++◌, map, length, Option, Some, None, refl, sym, ap, ap₂, subst, ◌∙◌, arith}
use Rattle.std.specs.Prelude.{◌||◌, ◌==◌, nat_le, nat_lt, position, unwrap_or, is_some, if◌then◌else◌}
use Rattle.std.specs.List.{flat_map, list_any, position_or_len}
use Rattle.std.proofs.lemmas.List.{length-append, append_assoc, append-nil, map-append}
use Rattle.std.proofs.lemmas.Bool.Decides.{nat_tests}
use Rattle.std.proofs.lemmas.Slice.Eq.{bytes_eq-Decides}
use Rattle.model_core.specs.declared.model.Model.{Model}
use Rattle.model_core.specs.declared.sum.Span.{Span}
use Rattle.model_core.specs.declared.sum.WrittenFactor.{WrittenFactor}
use Rattle.model_core.specs.declared.sum.WrittenMonomial.{WrittenMonomial}
use Rattle.model_core.specs.declared.referent.Referent.{Referent}
use Rattle.model_core.specs.declared.referent.Referent.TheVariants as referent
use Rattle.model_core.specs.declared.term.Generation.{Generation}
use Rattle.model_core.specs.Factors.{labels_of, all_labels}
use Rattle.model_core.specs.FileValues.{are_numbered, has_numbered_labels}
use Rattle.model_core.specs.TermMeaning.{same_text, first_labels, labels_in, written_labels, labels_of_monomial, label_number, label_numbers, factor_named, factor_of, referent_at, generation_in, monomial_of}

-- ---- first places

before_step : {A : Type 0} (test : A → Bool) (x : A) (first rest : List A) (b : Bool) → test x ≡ b → (b || list_any test first) ≡ true
    → (list_any test first ≡ true → position_or_len test (first ++ rest) < length first) → position_or_len test (x ∷ first ++ rest) < suc (length first)
before_step test x first rest true is some later = rw is (omega arith)
before_step test x first rest false is some later = let less = later some in rw is (omega (arith, less))

-- one of the first elements passes
found_before : {A : Type 0} (test : A → Bool) (first rest : List A) → list_any test first ≡ true → position_or_len test (first ++ rest) < length first
found_before test [] rest some = let never : ⊥ = cc in absurd never
found_before test (x ∷ first) rest some = before_step test x first rest (test x) refl some (found_before test first rest)

behind_step : {A : Type 0} (test : A → Bool) (x : A) (rest : List A) (count : ℕ) → test x ≡ false → position_or_len test rest ≡ count → position_or_len test (x ∷ rest) ≡ suc count
behind_step test x rest count other behind = rw (other, behind) (omega arith)

either_not : (a b : Bool) → (a || b) ≡ false → (a ≡ false) × (b ≡ false)
either_not true b none = let never : ⊥ = cc in absurd never
either_not false b none = (refl, none)

-- the first that passes stands behind others
found_behind : {A : Type 0} (test : A → Bool) (first : List A) (x : A) (rest : List A) → list_any test first ≡ false → test x ≡ true → position_or_len test ((first ++ x ∷ []) ++ rest) ≡ length first
found_behind test [] x rest none passes = rw passes refl
found_behind test (y ∷ first) x rest none passes =
    let parts = either_not (test y) (list_any test first) none in
    behind_step test y ((first ++ x ∷ []) ++ rest) (length first) parts.0 (found_behind test first x rest parts.1 passes)

place_of : {A : Type 0} (test : A → Bool) (xs : List A) → position_or_len test xs < length xs → unwrap_or (position test xs) 0 ≡ position_or_len test xs
place_of test xs less =
    let inside : nat_lt (position_or_len test xs) (length xs) ≡ true = grind (arith, nat_tests) in
    rw inside refl

-- ---- numbers

same_as_itself : (text : List ℕ) (label : Span) → same_text text label label ≡ true
same_as_itself text label = grind (arith, bytes_eq-Decides)

number_before : (text : List ℕ) (first rest : List Span) (label : Span) → list_any (same_text text label) first ≡ true → label_number text (first ++ rest) label < length first
number_before text first rest label known =
    let test = same_text text label in
    let less = found_before test first rest known in
    let all = length-append first rest in
    let is = place_of test (first ++ rest) (omega (arith, less, all)) in
    omega (arith, less, is)

number_behind : (text : List ℕ) (first rest : List Span) (label : Span) → list_any (same_text text label) first ≡ false → label_number text ((first ++ label ∷ []) ++ rest) label ≡ length first
number_behind text first rest label new =
    let test = same_text text label in
    let at = found_behind test first label rest new (same_as_itself text label) in
    let all = length-append (first ++ label ∷ []) rest in
    let one = length-append first (label ∷ []) in
    place_of test ((first ++ label ∷ []) ++ rest) (omega (arith, at, all, one)) ∙ at

-- ---- the first labels are the known ones and others behind them

grown_step : (text : List ℕ) (first : List Span) (label : Span) (labels : List Span) (known : Bool)
    → ((next : List Span) → (rest : List Span) × (first_labels text next labels ≡ next ++ rest))
    → (rest : List Span) × (first_labels text (if known then first else first ++ label ∷ []) labels ≡ first ++ rest)
grown_step text first label labels true later = later first
grown_step text first label labels false later =
    let more = later (first ++ label ∷ []) in
    (label ∷ more.0, more.1 ∙ append_assoc first (label ∷ []) more.0)

grown : (text : List ℕ) (first labels : List Span) → (rest : List Span) × (first_labels text first labels ≡ first ++ rest)
grown text first [] = ([], sym (append-nil first))
grown text first (label ∷ labels) = grown_step text first label labels (list_any (same_text text label) first) (λ next. grown text next labels)

known_next : (n next : ℕ) (numbers : List ℕ) → n < next → are_numbered next numbers ≡ true → are_numbered next (n ∷ numbers) ≡ true
known_next n next numbers less rest =
    let small : nat_le n next ≡ true = grind (arith, nat_tests) in
    let other : (n == next) ≡ false = grind (arith, nat_tests) in
    rw (small, other) rest

new_next : (n next : ℕ) (numbers : List ℕ) → n ≡ next → are_numbered (suc next) numbers ≡ true → are_numbered next (n ∷ numbers) ≡ true
new_next n next numbers is rest =
    let small : nat_le n next ≡ true = grind (arith, nat_tests) in
    let same : (n == next) ≡ true = grind (arith, nat_tests) in
    rw (small, same) rest

numbered_step : (text : List ℕ) (first : List Span) (label : Span) (labels : List Span) (known : Bool) → list_any (same_text text label) first ≡ known
    → ((next : List Span) → are_numbered (length next) (map (label_number text (first_labels text next labels)) labels) ≡ true)
    → are_numbered (length first) (map (label_number text (first_labels text (if known then first else first ++ label ∷ []) labels)) (label ∷ labels)) ≡ true
numbered_step text first label labels true is later =
    let all = grown text first labels in
    let number = label_number text (first_labels text first labels) in
    known_next (number label) (length first) (map number labels) (subst (λ some. label_number text some label < length first) (sym all.1) (number_before text first all.0 label is)) (later first)
numbered_step text first label labels false is later =
    let next = first ++ label ∷ [] in
    let all = grown text next labels in
    let number = label_number text (first_labels text next labels) in
    let one : length next ≡ suc (length first) = omega (arith, length-append first (label ∷ [])) in
    new_next (number label) (length first) (map number labels) (ap (λ some. label_number text some label) all.1 ∙ number_behind text first all.0 label is)
    (subst (λ count. are_numbered count (map number labels) ≡ true) one (later next))

numbered : (text : List ℕ) (first labels : List Span) → are_numbered (length first) (map (label_number text (first_labels text first labels)) labels) ≡ true
numbered text first [] = refl
numbered text first (label ∷ labels) =
    numbered_step text first label labels (list_any (same_text text label) first) refl (λ next. numbered text next labels)

-- ---- the labels of factors

labels_kept : (found : Option Referent) (conj : Bool) (generation : Generation) (labels : List ℕ) → labels_of (factor_named found conj generation labels) ≡ labels
labels_kept None conj generation labels = refl
labels_kept (Some (referent.Fermion field)) conj generation labels = refl
labels_kept (Some (referent.Scalar field)) conj generation labels = refl
labels_kept (Some referent.Eps) conj generation labels = refl
labels_kept (Some (referent.Table table)) conj generation labels = refl

in_order : (model : Model) (flavour : List (List ℕ)) (text : List ℕ) (labels : List Span) (factors : List WrittenFactor)
    → all_labels (map (factor_of model flavour text labels) factors) ≡ map (label_number text labels) (flat_map labels_in factors)
in_order model flavour text labels [] = refl
in_order model flavour text labels (factor ∷ factors) =
    ap₂ ◌++◌ (labels_kept (referent_at model text factor) (is_some factor.tilde) (generation_in flavour text factor.bracket) (label_numbers text labels factor)) (in_order model flavour text labels factors)
    ∙ sym (map-append (label_number text labels) factor.labels (flat_map labels_in factors))

pub monomial_numbered : (model : Model) (flavour : List (List ℕ)) (text : List ℕ) (monomial : WrittenMonomial) → has_numbered_labels (monomial_of model flavour text monomial) ≡ true
unfolding monomial_of labels_of_monomial
monomial_numbered model flavour text monomial =
    ap (are_numbered 0) (in_order model flavour text (first_labels text [] (written_labels monomial)) monomial.factors) ∙ numbered text [] (written_labels monomial)
