-- Tokens in order: a sorted list depends only on how often each token stands, and none comes before its first one.
use Rattle.std.proofs.Common.{◌≡◌, Bool, true, false, List, [], ◌∷◌, ◌++◌, map, Option, Some, None, Ordering, Less, Equal, Greater, refl, sym, ap, ap₂, ◌∙◌}
use Rattle.std.specs.Prelude.{⊤, if◌then◌else◌}
use Rattle.std.specs.List.{AllByRecursion, flat_map}
use Rattle.std.specs.Cmp.{IsTotalOrder, nat_cmp_total, on_total, then_total, bool_cmp_total}
use Rattle.std.specs.Ordering.{bool_cmp, nat_cmp, ordering_reverse, ordering_then}
use Rattle.exact_algebra.specs.Orders.{Rearranged, same, keep, swap, then as thereafter}
use Rattle.exact_algebra.specs.Sums.{nat_equal}
use Rattle.model_core.specs.declared.component_lists.FieldComponent.{FieldComponent}
use Rattle.model_core.specs.declared.content.FieldToken.{FieldToken}
use Rattle.model_core.specs.declared.term.TermKind.{TermKind}
use Rattle.model_core.specs.declared.term.TermKind.TheVariants.{Fermion, Scalar}
use Rattle.model_core.specs.BlockSide.{token_of}
use Rattle.model_core.specs.Content.{kind_cmp, token_cmp, is_before, inserted, sorted}

-- ---- the order of tokens

kind_turned : (x y : TermKind) → kind_cmp x y ≡ ordering_reverse (kind_cmp y x)
kind_turned Fermion Fermion = refl
kind_turned Fermion Scalar = refl
kind_turned Scalar Fermion = refl
kind_turned Scalar Scalar = refl

kind_trans : (x y z : TermKind) → kind_cmp x y ≡ Less → kind_cmp y z ≡ Less → kind_cmp x z ≡ Less
kind_trans Fermion Fermion z h k = let never : ⊥ = cc in absurd never
kind_trans Fermion Scalar Fermion h k = let never : ⊥ = cc in absurd never
kind_trans Fermion Scalar Scalar h k = refl
kind_trans Scalar Fermion z h k = let never : ⊥ = cc in absurd never
kind_trans Scalar Scalar z h k = let never : ⊥ = cc in absurd never

kind_congr : (x y z : TermKind) → kind_cmp x y ≡ Equal → kind_cmp x z ≡ kind_cmp y z
kind_congr Fermion Fermion z h = refl
kind_congr Fermion Scalar z h = let never : ⊥ = cc in absurd never
kind_congr Scalar Fermion z h = let never : ⊥ = cc in absurd never
kind_congr Scalar Scalar z h = refl

kinds_total : IsTotalOrder kind_cmp
kinds_total = record { antisymm = kind_turned; trans = kind_trans; congr = kind_congr }

pub tokens_total : IsTotalOrder token_cmp
tokens_total =
    then_total (on_total (λ (t : FieldToken). t.kind) kinds_total) (then_total (on_total (λ (t : FieldToken). t.field) nat_cmp_total)
    (then_total (on_total (λ (t : FieldToken). t.conj) bool_cmp_total) (on_total (λ (t : FieldToken). t.generation) nat_cmp_total)))

-- tokens that compare alike are the same
pub then_equal : (o r : Ordering) → ordering_then o r ≡ Equal → (o ≡ Equal) × (r ≡ Equal)
then_equal Less r h = let never : ⊥ = cc in absurd never
then_equal Equal r h = (refl, h)
then_equal Greater r h = let never : ⊥ = cc in absurd never

kind_equal : (a b : TermKind) → kind_cmp a b ≡ Equal → a ≡ b
kind_equal Fermion Fermion h = refl
kind_equal Fermion Scalar h = let never : ⊥ = cc in absurd never
kind_equal Scalar Fermion h = let never : ⊥ = cc in absurd never
kind_equal Scalar Scalar h = refl

bool_equal : (a b : Bool) → bool_cmp a b ≡ Equal → a ≡ b
bool_equal false false h = refl
bool_equal false true h = let never : ⊥ = cc in absurd never
bool_equal true false h = let never : ⊥ = cc in absurd never
bool_equal true true h = refl

pub token_equal : (a b : FieldToken) → token_cmp a b ≡ Equal → a ≡ b
token_equal a b h =
    let first = then_equal (kind_cmp a.kind b.kind) _ h in
    let second = then_equal (nat_cmp a.field b.field) _ first.1 in
    let third = then_equal (bool_cmp a.conj b.conj) _ second.1 in
    λ i. record {
      kind = kind_equal a.kind b.kind first.0 i;
      field = nat_equal a.field b.field second.0 i;
      conj = bool_equal a.conj b.conj third.0 i;
      generation = nat_equal a.generation b.generation third.1 i;
    }

-- ---- one before another

abbrev pub before : FieldToken → FieldToken → Bool
before a b = is_before (token_cmp a b)

turned_before : (a b : FieldToken) → before b a ≡ is_before (ordering_reverse (token_cmp a b))
turned_before a b = ap is_before (tokens_total.antisymm b a)

pub never_back : (a b : FieldToken) → before a b ≡ true → before b a ≡ false
never_back a b h = turned_before a b ∙ by_order (token_cmp a b) h
  where
    by_order : (o : Ordering) → is_before o ≡ true → is_before (ordering_reverse o) ≡ false
    by_order Less e = refl
    by_order Equal e = let never : ⊥ = cc in absurd never
    by_order Greater e = let never : ⊥ = cc in absurd never

-- neither comes before the other
tied : (a b : FieldToken) → before a b ≡ false → before b a ≡ false → a ≡ b
tied a b h k = token_equal a b (by_order (token_cmp a b) h (sym (turned_before a b) ∙ k))
  where
    by_order : (o : Ordering) → is_before o ≡ false → is_before (ordering_reverse o) ≡ false → o ≡ Equal
    by_order Less e f = let never : ⊥ = cc in absurd never
    by_order Equal e f = refl
    by_order Greater e f = let never : ⊥ = cc in absurd never

less : (o : Ordering) → is_before o ≡ true → o ≡ Less
less Less e = refl
less Equal e = let never : ⊥ = cc in absurd never
less Greater e = let never : ⊥ = cc in absurd never

-- y isn't behind z, which comes before x
pub through : (x y z : FieldToken) → before z x ≡ true → before z y ≡ false → before y x ≡ true
through x y z h k = by_order (token_cmp z y) refl k
  where
    by_order : (o : Ordering) → token_cmp z y ≡ o → is_before o ≡ false → before y x ≡ true
    by_order Less e f = let never : ⊥ = cc in absurd never
    by_order Equal e f = ap is_before (sym (tokens_total.congr z y x e)) ∙ h
    by_order Greater e f = ap is_before (tokens_total.trans y z x (tokens_total.antisymm y z ∙ ap ordering_reverse e) (less (token_cmp z x) h))

pub not_before : (u f t : FieldToken) → before u f ≡ false → before f t ≡ false → before u t ≡ false
not_before u f t h k = by_test (before u t) refl
  where
    by_test : (b : Bool) → before u t ≡ b → before u t ≡ false
    by_test false e = e
    by_test true e = let first : before f t ≡ true = through t f u e h in let never : ⊥ = cc in absurd never

-- ---- a token put in its place

put_behind : (t f : FieldToken) (l : List FieldToken) → before f t ≡ true → inserted t (f ∷ l) ≡ f ∷ inserted t l
put_behind t f l h = ap (λ (b : Bool). if b then f ∷ inserted t l else t ∷ f ∷ l) h

put_here : (t f : FieldToken) (l : List FieldToken) → before f t ≡ false → inserted t (f ∷ l) ≡ t ∷ f ∷ l
put_here t f l h = ap (λ (b : Bool). if b then f ∷ inserted t l else t ∷ f ∷ l) h

-- two at the front
two : (x y : FieldToken) (l : List FieldToken) → (if before y x then y ∷ x ∷ l else x ∷ y ∷ l) ≡ (if before x y then x ∷ y ∷ l else y ∷ x ∷ l)
two x y l = by_order (before y x) (before x y) refl refl
  where
    by_order : (b c : Bool) → before y x ≡ b → before x y ≡ c → (if b then y ∷ x ∷ l else x ∷ y ∷ l) ≡ (if c then x ∷ y ∷ l else y ∷ x ∷ l)
    by_order true true h k = let back = never_back y x h in let never : ⊥ = cc in absurd never
    by_order true false h k = refl
    by_order false true h k = refl
    by_order false false h k = let alike = tied y x h k in ap₂ (λ a b. a ∷ b ∷ l) (sym alike) alike

-- two put in their places, in either order
inserted_swap : (x y : FieldToken) (l : List FieldToken) → inserted x (inserted y l) ≡ inserted y (inserted x l)
inserted_swap x y [] = two x y []
inserted_swap x y (z ∷ l) = by_order (before z x) (before z y) refl refl (inserted_swap x y l)
  where
    by_order : (b c : Bool) → before z x ≡ b → before z y ≡ c → inserted x (inserted y l) ≡ inserted y (inserted x l)
        → inserted x (if c then z ∷ inserted y l else y ∷ z ∷ l) ≡ inserted y (if b then z ∷ inserted x l else x ∷ z ∷ l)
    by_order true true h k others = put_behind x z (inserted y l) h ∙ ap (λ w. z ∷ w) others ∙ sym (put_behind y z (inserted x l) k)
    by_order true false h k others =
        put_behind x y (z ∷ l) (through x y z h k) ∙ ap (λ w. y ∷ w) (put_behind x z l h) ∙ sym (put_here y z (inserted x l) k)
    by_order false true h k others =
        put_here x z (inserted y l) h ∙ sym (ap (λ w. x ∷ w) (put_behind y z l k)) ∙ sym (put_behind y x (z ∷ l) (through y x z k h))
    by_order false false h k others =
        ap (λ w. if before y x then y ∷ w else x ∷ y ∷ z ∷ l) (put_here x z l h) ∙ two x y (z ∷ l)
        ∙ sym (ap (λ w. if before x y then x ∷ w else y ∷ x ∷ z ∷ l) (put_here y z l k))

-- ---- sorted lists

-- they don't see the order
pub sorted_rearranged : {xs ys : List FieldToken} → Rearranged xs ys → sorted xs ≡ sorted ys
sorted_rearranged same = refl
sorted_rearranged (keep {x = x} r) = ap (inserted x) (sorted_rearranged r)
sorted_rearranged (swap {x = x} {y = y} {xs = xs}) = inserted_swap x y (sorted xs)
sorted_rearranged (thereafter r s) = sorted_rearranged r ∙ sorted_rearranged s

inserted_is : (x : FieldToken) (l : List FieldToken) → Rearranged (x ∷ l) (inserted x l)
inserted_is x [] = same
inserted_is x (z ∷ l) = by_order (before z x) (inserted_is x l)
  where
    by_order : (b : Bool) → Rearranged (x ∷ l) (inserted x l) → Rearranged (x ∷ z ∷ l) (if b then z ∷ inserted x l else x ∷ z ∷ l)
    by_order true r = thereafter swap (keep r)
    by_order false r = same

pub sorted_is : (xs : List FieldToken) → Rearranged xs (sorted xs)
sorted_is [] = same
sorted_is (x ∷ xs) = thereafter (keep (sorted_is xs)) (inserted_is x (sorted xs))

pub map_rearranged : {A B : Type 0} (f : A → B) {xs ys : List A} → Rearranged xs ys → Rearranged (map f xs) (map f ys)
map_rearranged f same = same
map_rearranged f (keep r) = keep (map_rearranged f r)
map_rearranged f swap = swap
map_rearranged f (thereafter r s) = thereafter (map_rearranged f r) (map_rearranged f s)

pub middle : {A : Type 0} (xs : List A) (x : A) (ys : List A) → Rearranged (x ∷ xs ++ ys) (xs ++ x ∷ ys)
middle [] x ys = same
middle (z ∷ xs) x ys = thereafter swap (keep (middle xs x ys))

-- the tokens of what is rearranged, with others behind them
pub tokens_rearranged : (kind : TermKind) (xs ys : List (Option FieldComponent)) (rest : List FieldToken) → Rearranged xs ys → Rearranged (flat_map (token_of kind) xs ++ rest) (flat_map (token_of kind) ys ++ rest)
tokens_rearranged kind xs ys rest r = by_moves r
  where
    by_moves : {xs ys : List (Option FieldComponent)} → Rearranged xs ys → Rearranged (flat_map (token_of kind) xs ++ rest) (flat_map (token_of kind) ys ++ rest)
    by_moves same = same
    by_moves (keep {x = None} r) = by_moves r
    by_moves (keep {x = Some x} r) = keep (by_moves r)
    by_moves (swap {x = None} {y = None}) = same
    by_moves (swap {x = None} {y = Some y}) = same
    by_moves (swap {x = Some x} {y = None}) = same
    by_moves (swap {x = Some x} {y = Some y}) = swap
    by_moves (thereafter r s) = thereafter (by_moves r) (by_moves s)

pub all_rearranged : {A : Type 0} (P : A → Type 0) {xs ys : List A} → Rearranged xs ys → AllByRecursion P xs → AllByRecursion P ys
all_rearranged P same h = h
all_rearranged P (keep r) h = (h.0, all_rearranged P r h.1)
all_rearranged P swap h = (h.1.0, (h.0, h.1.1))
all_rearranged P (thereafter r s) h = all_rearranged P s (all_rearranged P r h)

pub all_weaker : {A : Type 0} (P Q : A → Type 0) (xs : List A) → ((x : A) → P x → Q x) → AllByRecursion P xs → AllByRecursion Q xs
all_weaker P Q [] f h = tt
all_weaker P Q (x ∷ xs) f h = (f x h.0, all_weaker P Q xs f h.1)

pub sorted_map : (f : FieldToken → FieldToken) (xs : List FieldToken) → sorted (map f (sorted xs)) ≡ sorted (map f xs)
sorted_map f xs = sym (sorted_rearranged (map_rearranged f (sorted_is xs)))

pub sorted_twice : (xs : List FieldToken) → sorted (sorted xs) ≡ sorted xs
sorted_twice xs = sym (sorted_rearranged (sorted_is xs))

-- ---- the first token

-- none comes before it
abbrev pub IsLowFirst : List FieldToken → Type 0
IsLowFirst [] = ⊤
IsLowFirst (h ∷ rest) = AllByRecursion (λ u. before u h ≡ false) rest

inserted_low : (t : FieldToken) (l : List FieldToken) → IsLowFirst l → IsLowFirst (inserted t l)
inserted_low t [] low = tt
inserted_low t (f ∷ l) low = by_order (before f t) refl
  where
    by_order : (b : Bool) → before f t ≡ b → IsLowFirst (if b then f ∷ inserted t l else t ∷ f ∷ l)
    by_order true h = all_rearranged (λ u. before u f ≡ false) (inserted_is t l) (never_back f t h, low)
    by_order false h = (h, all_weaker (λ u. before u f ≡ false) (λ u. before u t ≡ false) l (λ u e. not_before u f t e h) low)

pub sorted_low : (xs : List FieldToken) → IsLowFirst (sorted xs)
sorted_low [] = tt
sorted_low (x ∷ xs) = inserted_low x (sorted xs) (sorted_low xs)
