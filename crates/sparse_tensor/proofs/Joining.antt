-- Runs of entries that a link goes to.
use Rattle.std.specs.Prelude.{◌≡◌, ◌==◌, ◌<◌, ℕ, zero, suc, Bool, true, false, List, [], ◌∷◌, ◌++◌, length, map, get_or}
use Rattle.std.specs.List.{filter, All}
use Rattle.std.specs.List.Sorted.{IsPermutation}
use Rattle.std.proofs.Common.{refl, ap, ◌∙◌, arith, cond, Bor}
use Rattle.std.proofs.lemmas.List.Sorted.{All-permutation}
use Rattle.beta_poly.specs.Polynomial.{Polynomial, ProductsFit}
use Rattle.sparse_tensor.specs.declared.links.Link.{Link}
use Rattle.sparse_tensor.specs.Tensor.{Entries, HasRank}
use Rattle.sparse_tensor.specs.Collected.{links_from, met, with_place, met_along, all_met, CanMeet}
use Rattle.sparse_tensor.proofs.Parts.{sorted_empty}
use Rattle.sparse_tensor.proofs.Projected.{legs_inside}

map_cond : {A B : Type 0} (f : A → B) (b : Bool) (x : A) (r : List A) → map f (cond b (x ∷ r) r) ≡ cond b (f x ∷ map f r) (map f r)
map_cond f true x r = refl
map_cond f false x r = refl

-- the values of a part are the part of the values
pub map_filter : {A B : Type 0} (f : A → B) (t : B → Bool) (xs : List A) → map f (filter (λ x. t (f x)) xs) ≡ filter t (map f xs)
map_filter f t [] = refl
map_filter f t (x ∷ xs) =
    map_cond f (t (f x)) x (filter (λ y. t (f y)) xs) ∙ ap (λ r. cond (t (f x)) (f x ∷ r) r) (map_filter f t xs)

map_map : {A B C : Type 0} (g : B → C) (f : A → B) (xs : List A) → map (λ x. g (f x)) xs ≡ map g (map f xs)
map_map g f [] = refl
map_map g f (x ∷ xs) = ap (λ r. g (f x) ∷ r) (map_map g f xs)

-- an entry joined to a run of references
pub run_met : (p q place : ℕ) (a : List ℕ × Polynomial) (l : Link) (order : List (Bor (List ℕ × Polynomial))) → map (λ b. met p q a l b.now) (filter (λ b. get_or b.now.0 q 0 == place) order) ≡ map (met p q a l) (with_place q place (map (λ b. b.now) order))
run_met p q place a l order =
    map_map (met p q a l) (λ b. b.now) (filter (λ b. get_or b.now.0 q 0 == place) order)
    ∙ ap (map (met p q a l)) (map_filter (λ b. b.now) (λ e. get_or e.0 q 0 == place) order)

all_cond : {A : Type 0} (P : A → Type 0) (b : Bool) (x : A) (r : List A) → P x → All P r → All P (cond b (x ∷ r) r)
all_cond P true x r h k zero d l = h
all_cond P true x r h k (suc i) d l = k i d (omega arith)
all_cond P false x r h k i d l = k i d l

-- what holds of each item holds of each of a part
pub all_filter : {A : Type 0} (P : A → Type 0) (t : A → Bool) (xs : List A) → All P xs → All P (filter t xs)
all_filter P t [] h = h
all_filter P t (x ∷ xs) h =
    all_cond P (t x) x (filter t xs) (h zero x (omega arith)) (all_filter P t xs (λ i d l. h (suc i) d (omega arith)))

all_unmap : {A B : Type 0} (P : B → Type 0) (f : A → B) (xs : List A) → All P (map f xs) → All (λ x. P (f x)) xs
all_unmap P f [] h i d l = absurd (omega arith)
all_unmap P f (x ∷ xs) h zero d l = h zero (f x) (omega arith)
all_unmap P f (x ∷ xs) h (suc i) d l = all_unmap P f xs (λ j e k. h (suc j) e (omega arith)) i d (omega arith)

-- entries of two tensors can meet in any order of the second's
pub can_meet : (m n p q : ℕ) (es bs : Entries) (order : List (Bor (List ℕ × Polynomial))) → p < m → q < n → HasRank m es → HasRank n bs → IsPermutation bs (map (λ b. b.now) order) → All (λ a. All (λ b. ProductsFit a.1 b.1) bs) es → All (λ a. (p < length a.0) × All (λ b. CanMeet q a b.now) order) es
can_meet m n p q es bs order hp hq ka kb perm fits i d l =
    let a = get_or es i d in (
      legs_inside m p es hp ka i d l,
      all_unmap (CanMeet q a) (λ b. b.now) order (All-permutation (CanMeet q a) bs (map (λ b. b.now) order) perm (λ j e k. (legs_inside n q bs hq kb j e k, fits i d l j e k))),
    )

no_references : {A : Type 0} (order : List (Bor A)) → map (λ b. b.now) order ≡ [] → order ≡ []
no_references [] h = refl
no_references (b ∷ bs) h = absurd (more (length (map (λ x. x.now) bs)) (ap length h))
  where
    more : (n : ℕ) → suc n ≡ 0 → ⊥
    more n e = omega arith

-- no entries have no references
pub order_empty : (bs : Entries) (order : List (Bor (List ℕ × Polynomial))) → IsPermutation bs (map (λ b. b.now) order) → bs ≡ [] → order ≡ []
order_empty bs order perm e = no_references order (sorted_empty bs (map (λ b. b.now) order) perm e)

along_none : (p q : ℕ) (ls : List Link) (a : List ℕ × Polynomial) → met_along p q ls [] a ≡ []
along_none p q [] a = refl
along_none p q (l ∷ ls) a = along_none p q ls a

-- nothing is joined to no entries
pub met_none : (p q : ℕ) (links : List Link) (es : Entries) → all_met p q links [] es ≡ []
met_none p q links [] = refl
met_none p q links (a ∷ es) =
    ap (λ r. r ++ all_met p q links [] es) (along_none p q (links_from (get_or a.0 p 0) links) a) ∙ met_none p q links es
