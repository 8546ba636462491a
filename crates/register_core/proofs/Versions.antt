-- The number of the first version with some bytes, and what `store` answers.
use Rattle.std.proofs.Common.{◌≡◌, ◌<◌, ◌≤◌, ◌+◌, ◌-◌, ℕ, zero, suc, List, [], ◌∷◌, length, slice_get, bytes_eq, nat_lt, true, false, option_map, Some, None, Ok, Err, refl, sym, ap, ◌∙◌, arith}
use Rattle.std.proofs.lemmas.Bool.Decides.{nat_tests}
use Rattle.register_core.specs.declared.register_fault.RegisterFault.TheVariants.{Full}
use Rattle.register_core.specs.Register.{Register, most_versions, versions_of, version_of, with_version}
use Rattle.register_core.specs.Machine.{number_of, store, store_at, store_new, count_of}

-- none of the first n versions has the bytes
abbrev pub NoneHas : List ℕ → List (List ℕ) → ℕ → Type 0
NoneHas bytes versions n = (k : ℕ) → k < n → (v : List ℕ) → slice_get versions k ≡ Some v → bytes_eq v bytes ≡ false

later : (bytes v : List ℕ) (vs : List (List ℕ)) (n : ℕ) → NoneHas bytes (v ∷ vs) (suc n) → NoneHas bytes vs n
later bytes v vs n none = λ k low x is. none (suc k) (omega (arith, low)) x is

first_at : (bytes : List ℕ) (vs : List (List ℕ)) (i : ℕ) (x : List ℕ) → slice_get vs i ≡ Some x → bytes_eq x bytes ≡ true → NoneHas bytes vs i → number_of bytes vs ≡ Some (i + 1)
first_at bytes [] i x is eq none = absurd cc
first_at bytes (v ∷ vs) zero x is eq none = let same : v ≡ x = cc in let e : bytes_eq v bytes ≡ true = ap (λ y. bytes_eq y bytes) same ∙ eq in rw e refl
first_at bytes (v ∷ vs) (suc i) x is eq none =
    let e : bytes_eq v bytes ≡ false = none 0 (omega arith) v refl in
    rw e (ap (option_map (λ number. number + 1)) (first_at bytes vs i x is eq (later bytes v vs i none)) ∙ ap Some (omega arith))

none_at : (bytes : List ℕ) (vs : List (List ℕ)) (n : ℕ) → length vs ≤ n → NoneHas bytes vs n → number_of bytes vs ≡ None
none_at bytes [] n all none = refl
none_at bytes (v ∷ vs) zero all none = absurd (omega (arith, all))
none_at bytes (v ∷ vs) (suc n) all none =
    let e : bytes_eq v bytes ≡ false = none 0 (omega arith) v refl in
    rw e (ap (option_map (λ number. number + 1)) (none_at bytes vs n (omega (arith, all)) (later bytes v vs n none)))

-- a walk over a name's versions that hasn't met the bytes
pub record Looked (s : Register) (name bytes : List ℕ) (count place : ℕ) : Type 0 where
  pub count_is : count ≡ count_of s name
  pub most : count ≤ most_versions
  pub none : NoneHas bytes (versions_of s name) place

module _ (s t : Register) (same : t ≡ s) (name bytes : List ℕ) (count place : ℕ) (it : Looked s name bytes count place) where
  pub stored_at : (x : List ℕ) → slice_get (versions_of s name) place ≡ Some x → bytes_eq x bytes ≡ true → (Ok (place + 1), t) ≡ store s name bytes
  stored_at x is eq = sym (ap (store_at s name bytes) (first_at bytes (versions_of s name) place x is eq it.none) ∙ λ i. (Ok (place + 1), sym same i))

  nothing : count ≤ place → store s name bytes ≡ store_new s name bytes
  nothing all = ap (store_at s name bytes) (none_at bytes (versions_of s name) place (omega (arith, all, it.count_is)) it.none)

  pub stored_full : count ≤ place → most_versions ≤ count → (Err (Full count), t) ≡ store s name bytes
  stored_full all many =
      let no : nat_lt (count_of s name) most_versions ≡ false = grind (arith, nat_tests, many, it.count_is) in
      sym (nothing all ∙ (rw no refl) ∙ λ i. (Err (Full (sym it.count_is i)), sym same i))

  pub stored_new : count ≤ place → count < most_versions → (u : Register) → u ≡ with_version t name bytes → (Ok (count + 1), u) ≡ store s name bytes
  stored_new all few u made =
      let yes : nat_lt (count_of s name) most_versions ≡ true = grind (arith, nat_tests, few, it.count_is) in
      let new : u ≡ with_version s name bytes = made ∙ ap (λ r. with_version r name bytes) same in
      sym (nothing all ∙ (rw yes refl) ∙ λ i. (Ok (sym it.count_is i + 1), sym new i))

pub version_next : (s : Register) (name : List ℕ) (place : ℕ) → version_of s name (place + 1) ≡ slice_get (versions_of s name) place
version_next s name place =
    let low : nat_lt 0 (place + 1) ≡ true = grind (arith, nat_tests) in
    let back : place + 1 - 1 ≡ place = omega arith in
    rw (low, back) refl
