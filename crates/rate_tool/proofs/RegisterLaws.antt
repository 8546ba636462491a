-- What one version more and one run more change in a register.
use Rattle.std.proofs.Common.{◌≡◌, ◌≢◌, ◌⊎◌, ℕ, zero, suc, ◌<◌, ◌≤◌, Bool, true, false, cond, List, [], ◌∷◌, ◌++◌, length, length-append, slice_get, bytes_eq, is_some, unwrap_or, option_map, nat_lt, if◌then◌else◌, true≢false, ◌+◌, ◌-◌, Option, None, Some, refl, sym, ap, ◌∙◌, arith, inl, inr, Ordering, Less, Equal, Greater}
use Rattle.std.specs.Ordering.{nat_cmp, ordering_then, is_eq, eq_by_cmp}
use Rattle.std.specs.FinMap.{get, insert, get-insert, get-empty, IsAntisymmetric, nat_cmp-IsAntisymmetric, slice_cmp-IsAntisymmetric}
use Rattle.std.proofs.lemmas.Cmp.{nat_list_cmp_total}
use Rattle.std.proofs.lemmas.Option.{slice_get_within}
use Rattle.std.proofs.lemmas.Slice.Eq.{bytes_eq-Decides}
use Rattle.exact_algebra.specs.Blocks.{slice_get-append_left}
use Rattle.model_core.specs.declared.format.Format.{Format}
use Rattle.model_core.specs.declared.format.Format.TheVariants as format
use Rattle.register_core.specs.Register.{Register, Key, name_cmp, key_cmp, format_place, opening, versions_of, version_of, run_of, with_version, with_run}
use Rattle.register_core.specs.Machine.{number_of}
use Rattle.register_core.proofs.Tables.{keys_total}

-- ---- names and keys that tie are the same

tied : (r : Ordering) → is_eq r ≡ true → r ≡ Equal
tied Less e = let never : ⊥ = cc in absurd never
tied Equal e = refl
tied Greater e = let never : ⊥ = cc in absurd never

then_equal : (o r : Ordering) → ordering_then o r ≡ Equal → (o ≡ Equal) × (r ≡ Equal)
then_equal Less r same = let never : ⊥ = cc in absurd never
then_equal Equal r same = (refl, same)
then_equal Greater r same = let never : ⊥ = cc in absurd never

pub names_same : IsAntisymmetric name_cmp
names_same = slice_cmp-IsAntisymmetric nat_cmp-IsAntisymmetric

format_same : (a b : Format) → format_place a ≡ format_place b → a ≡ b
format_same format.Text format.Text same = refl
format_same format.Text format.Latex same = absurd (omega (arith, same))
format_same format.Text format.Csv same = absurd (omega (arith, same))
format_same format.Latex format.Text same = absurd (omega (arith, same))
format_same format.Latex format.Latex same = refl
format_same format.Latex format.Csv same = absurd (omega (arith, same))
format_same format.Csv format.Text same = absurd (omega (arith, same))
format_same format.Csv format.Latex same = absurd (omega (arith, same))
format_same format.Csv format.Csv same = refl

pub keys_same : IsAntisymmetric key_cmp
keys_same a b same =
    let first = then_equal (name_cmp a.name b.name) _ same in
    let second = then_equal (nat_cmp a.version b.version) _ first.1 in
    let third = then_equal (nat_cmp a.loops b.loops) _ second.1 in
    λ i. record {
      name = names_same a.name b.name first.0 i;
      version = nat_cmp-IsAntisymmetric a.version b.version second.0 i;
      loops = nat_cmp-IsAntisymmetric a.loops b.loops third.0 i;
      format = format_same a.format b.format (nat_cmp-IsAntisymmetric (format_place a.format) (format_place b.format) third.1) i;
    }

-- ---- lists of versions

-- what stands at a place of a list with one item more
got_pushed : (xs : List (List ℕ)) (x : List ℕ) (i : ℕ) (a : List ℕ) → slice_get (xs ++ x ∷ []) i ≡ Some a → (slice_get xs i ≡ Some a) ⊎ ((i ≡ length xs) × (a ≡ x))
got_pushed [] x zero a is = inr (refl, cc)
got_pushed [] x (suc i) a is = let never : ⊥ = cc in absurd never
got_pushed (y ∷ xs) x zero a is = inl is
got_pushed (y ∷ xs) x (suc i) a is = elim (got_pushed xs x i a is) [
  | inl there ↦ inl there
  | inr last ↦ inr (ap suc last.0, last.1)
]

-- where no version has the bytes
none_first : (b : Bool) (o : Option ℕ) → (if b then Some 1 else option_map (λ number. number + 1) o) ≡ None → (b ≡ false) × (o ≡ None)
none_first true o none = let never : ⊥ = cc in absurd never
none_first false None none = (refl, refl)
none_first false (Some number) none = let never : ⊥ = cc in absurd never

none_has : (bytes : List ℕ) (xs : List (List ℕ)) (i : ℕ) (a : List ℕ) → number_of bytes xs ≡ None → slice_get xs i ≡ Some a → a ≢ bytes
none_has bytes [] i a none is same = let never : ⊥ = cc in never
none_has bytes (x ∷ xs) zero a none is same =
    let other = (none_first (bytes_eq x bytes) (number_of bytes xs) none).0 in
    let first : x ≡ a = cc in
    true≢false (sym ((bytes_eq-Decides x bytes).1 (first ∙ same)) ∙ other)
none_has bytes (x ∷ xs) (suc i) a none is same = none_has bytes xs i a (none_first (bytes_eq x bytes) (number_of bytes xs) none).1 is same

-- items at two places differ
abbrev pub AllDiffer : List (List ℕ) → Type 0
AllDiffer xs = (i j : ℕ) (a b : List ℕ) → i < j → slice_get xs i ≡ Some a → slice_get xs j ≡ Some b → a ≢ b

-- bytes that no version has keep them apart
pub differ_pushed : (xs : List (List ℕ)) (bytes : List ℕ) → AllDiffer xs → number_of bytes xs ≡ None → AllDiffer (xs ++ bytes ∷ [])
differ_pushed xs bytes apart none i j a b before at_i at_j same = elim (got_pushed xs bytes i a at_i) [
  | inl first ↦ elim (got_pushed xs bytes j b at_j) [
    | inl second ↦ apart i j a b before first second same
    | inr last ↦ none_has bytes xs i a none first (same ∙ last.1)
  ]
  | inr first ↦ elim (got_pushed xs bytes j b at_j) [
    | inl second ↦ absurd (omega (arith, before, first.0, slice_get_within xs j b second))
    | inr last ↦ absurd (omega (arith, before, first.0, last.0))
  ]
]

-- ---- one version more

module _ (register : Register) (name bytes : List ℕ) where
  abbrev pushed : List (List ℕ)
  pushed = versions_of register name ++ bytes ∷ []

  versions_with : (other : List ℕ) → versions_of (with_version register name bytes) other ≡ (unwrap_or (cond (eq_by_cmp name_cmp other name) (Some pushed) (get register.models other)) [])
  versions_with other = ap (λ o. unwrap_or o []) (get-insert nat_list_cmp_total register.models name pushed other)

  versions_by : (other : List ℕ) (b : Bool) → eq_by_cmp name_cmp other name ≡ b
      → ((other ≡ name) × (unwrap_or (cond b (Some pushed) (get register.models other)) [] ≡ versions_of register other ++ bytes ∷ []))
      ⊎ (unwrap_or (cond b (Some pushed) (get register.models other)) [] ≡ versions_of register other)
  versions_by other true eq = let same = names_same other name (tied _ eq) in inl (same, ap (λ n. versions_of register n ++ bytes ∷ []) (sym same))
  versions_by other false eq = inr refl

  -- the versions of a name are those before, or at the name itself one more
  pub versions_after : (other : List ℕ) → ((other ≡ name) × (versions_of (with_version register name bytes) other ≡ versions_of register other ++ bytes ∷ []))
      ⊎ (versions_of (with_version register name bytes) other ≡ versions_of register other)
  versions_after other = elim (versions_by other _ refl) [
    | inl more ↦ inl (more.0, versions_with other ∙ more.1)
    | inr same ↦ inr (versions_with other ∙ same)
  ]

  -- a place of the versions before keeps what it has
  slice_kept : (other : List ℕ) (i : ℕ) (file : List ℕ) → slice_get (versions_of register other) i ≡ Some file → slice_get (versions_of (with_version register name bytes) other) i ≡ Some file
  slice_kept other i file there = elim (versions_after other) [
    | inl more ↦ ap (λ xs. slice_get xs i) more.1 ∙ slice_get-append_left (versions_of register other) (bytes ∷ []) i file there
    | inr same ↦ ap (λ xs. slice_get xs i) same ∙ there
  ]

  version_by : (other : List ℕ) (i : ℕ) (file : List ℕ) (b : Bool) → (if b then slice_get (versions_of register other) i else None) ≡ Some file
      → (if b then slice_get (versions_of (with_version register name bytes) other) i else None) ≡ Some file
  version_by other i file true there = slice_kept other i file there
  version_by other i file false there = there

  pub version_kept : (other : List ℕ) (version : ℕ) (file : List ℕ) → version_of register other version ≡ Some file → version_of (with_version register name bytes) other version ≡ Some file
  version_kept other version file there = version_by other (version - 1) file (nat_lt 0 version) there

-- ---- names that have a version

abbrev pub AllFilled : Register → Type 0
AllFilled register = (name : List ℕ) (versions : List (List ℕ)) → get register.models name ≡ Some versions → 1 ≤ length versions

module _ (register : Register) (name bytes : List ℕ) where
  filled_by : AllFilled register → (other : List ℕ) (versions : List (List ℕ)) (b : Bool)
      → cond b (Some (versions_of register name ++ bytes ∷ [])) (get register.models other) ≡ Some versions → 1 ≤ length versions
  filled_by all other versions true there =
      let is : versions_of register name ++ bytes ∷ [] ≡ versions = cc in omega (arith, ap length is, length-append (versions_of register name) (bytes ∷ []))
  filled_by all other versions false there = all other versions there

  pub filled_with : AllFilled register → AllFilled (with_version register name bytes)
  filled_with all other versions there =
      filled_by all other versions (eq_by_cmp name_cmp other name) (sym (get-insert nat_list_cmp_total register.models name (versions_of register name ++ bytes ∷ []) other) ∙ there)

pub none_filled : AllFilled opening
none_filled name versions there = let both : None ≡ Some versions = sym (get-empty name_cmp name) ∙ there in let never : ⊥ = cc in absurd never

-- ---- one run more

module _ (register : Register) (key : Key) (output : List ℕ) where
  abbrev pub kept_new : Register
  kept_new = record register { runs = insert register.runs key output }

  pub with_run_new : run_of register key ≡ None → with_run register key output ≡ kept_new
  with_run_new none = ap (λ o. if is_some o then register else kept_new) none

  run_by : (other : Key) (b : Bool) → eq_by_cmp key_cmp other key ≡ b → (found : List ℕ) → cond b (Some output) (run_of register other) ≡ Some found
      → ((other ≡ key) × (found ≡ output)) ⊎ (run_of register other ≡ Some found)
  run_by other true eq found there = inl (keys_same other key (tied _ eq), cc)
  run_by other false eq found there = inr there

  -- a run that is kept is the new one, or was kept before
  pub run_after : (other : Key) (found : List ℕ) → run_of kept_new other ≡ Some found → ((other ≡ key) × (found ≡ output)) ⊎ (run_of register other ≡ Some found)
  run_after other found there = run_by other _ refl found (sym (get-insert keys_total register.runs key output other) ∙ there)

-- ---- the register that has no name

pub no_versions : (name : List ℕ) → versions_of opening name ≡ []
no_versions name = ap (λ o. unwrap_or o []) (get-empty name_cmp name)

pub no_runs : (key : Key) → run_of opening key ≡ None
no_runs key = get-empty key_cmp key
