-- Slots whose labels have one value each: those at the front have it too.
use Rattle.std.specs.Prelude.{◌≡◌, ◌==◌, ◌&&◌, ◌||◌, ℕ, Bool, true, false, cond, List, [], ◌∷◌, ◌++◌, Option, Some, option_map, unwrap_or}
use Rattle.std.specs.List.{find, list_all, list_any, AllByRecursion}
use Rattle.std.proofs.Common.{refl, sym, ap, ap₂, ◌∙◌, arith, true≢false}
use Rattle.std.proofs.lemmas.List.Folds.{list_all-append}
use Rattle.model_core.specs.declared.content.LabelValue.{LabelValue}
use Rattle.model_core.specs.MonomialValue.{is_labelled, value_of_slot, agrees, are_equal}
use Rattle.model_core.proofs.ValidLaws.{both}

-- each element meets what follows
pub each_weaker : {A : Type 0} (P Q : A → Type 0) → ((x : A) → P x → Q x) → (xs : List A) → AllByRecursion P xs → AllByRecursion Q xs
each_weaker P Q f [] h = tt
each_weaker P Q f (x ∷ xs) h = (f x h.0, each_weaker P Q f xs h.1)

or_true : (b c : Bool) → c ≡ true → (b || c) ≡ true
or_true true c h = refl
or_true false c h = h

same_number : (n : ℕ) → (n == n) ≡ true
same_number n = grind arith

-- a slot with the label of the given one is among these
abbrev Has : List LabelValue → LabelValue → Type 0
Has slots slot = list_any (is_labelled slot.label) slots ≡ true

each_there : (slots : List LabelValue) → AllByRecursion (Has slots) slots
each_there [] = tt
each_there (slot ∷ slots) = (
  ap (λ b. b || list_any (is_labelled slot.label) slots) (same_number slot.label),
  each_weaker (Has slots) (Has (slot ∷ slots)) (λ s. or_true (is_labelled s.label slot) (list_any (is_labelled s.label) slots)) slots (each_there slots),
)

front_by : (b any : Bool) (x : LabelValue) (o p : Option LabelValue) → (b || any) ≡ true → (any ≡ true → o ≡ p) → cond b (Some x) o ≡ cond b (Some x) p
front_by true any x o p h rest = refl
front_by false any x o p h rest = rest h

find_front : (test : LabelValue → Bool) (xs ys : List LabelValue) → list_any test xs ≡ true → find test (xs ++ ys) ≡ find test xs
find_front test [] ys h = absurd (true≢false (sym h))
find_front test (x ∷ xs) ys h = front_by (test x) (list_any test xs) x (find test (xs ++ ys)) (find test xs) h (find_front test xs ys)

agrees_front : (xs ys : List LabelValue) (slot : LabelValue) → Has xs slot → agrees (xs ++ ys) slot ≡ agrees xs slot
agrees_front xs ys slot h =
    ap (λ o. slot.value == unwrap_or (option_map value_of_slot o) 0) (find_front (is_labelled slot.label) xs ys h)

all_same : (f g : LabelValue → Bool) (P : LabelValue → Type 0) → ((x : LabelValue) → P x → f x ≡ g x) → (xs : List LabelValue) → AllByRecursion P xs → list_all f xs ≡ list_all g xs
all_same f g P h [] each = refl
all_same f g P h (x ∷ xs) each = ap₂ ◌&&◌ (h x each.0) (all_same f g P h xs each.1)

-- slots at the front of equal ones are equal
pub equal_front : (xs ys : List LabelValue) → are_equal (xs ++ ys) ≡ true → are_equal xs ≡ true
equal_front xs ys h =
    sym (all_same (agrees (xs ++ ys)) (agrees xs) (Has xs) (agrees_front xs ys) xs (each_there xs))
    ∙ (both (list_all (agrees (xs ++ ys)) xs) (list_all (agrees (xs ++ ys)) ys) (sym (list_all-append (agrees (xs ++ ys)) xs ys) ∙ h)).0

by_front : (b : Bool) (xs ys : List LabelValue) → are_equal (xs ++ ys) ≡ b → are_equal xs ≡ false → b ≡ false
by_front true xs ys e h = absurd (true≢false (sym (equal_front xs ys e) ∙ h))
by_front false xs ys e h = refl

-- what begins with others isn't equal
pub unequal_front : (xs ys : List LabelValue) → are_equal xs ≡ false → are_equal (xs ++ ys) ≡ false
unequal_front xs ys h = by_front (are_equal (xs ++ ys)) xs ys refl h
