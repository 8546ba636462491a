-- The directions that are found have the names and the numbers of those that are meant.
use Rattle.std.specs.Prelude.{◌≡◌, ◌+◌, ℕ, zero, suc, Bool, true, false, cond, List, [], ◌∷◌, map, length, take, slice_get, Some}
use Rattle.std.specs.List.{All, AllByRecursion}
use Rattle.std.proofs.Common.{refl, sym, ap, ap₂, subst, ◌∙◌, inl, inr}
use Rattle.std.proofs.lemmas.List.{length-map}
use Rattle.std.proofs.lemmas.List.Elements.{All-from_recursion}
use Rattle.model_core.specs.declared.model.Model.{Model}
use Rattle.model_core.specs.Directions.{Direction, directions}
use Rattle.term_expand.specs.declared.directions.Direction.{Direction as Found}
use Rattle.term_expand.specs.declared.token.Token.{Token}
use Rattle.term_expand.specs.Expansion.{IsDirection, AreDirections}
use Rattle.term_expand.specs.Texts.{leg_count}
use Rattle.span_solver.specs.BlockDirections.{same_name, is_named, numbers_of as numbers_found, block_directions, block_numbers, HasForm, HaveForm}
use Rattle.derive_core.specs.Blocks.{name_of, is_of, directions_of, tensor_of, numbers_of}
use Rattle.derive_core.proofs.BlockNames.{name_same}
use Rattle.derive_core.proofs.ConstantParts.{all_constant, numbers_are}
use Rattle.derive_core.proofs.Elements.{IsIn, in_front}
use Rattle.derive_core.proofs.OwnDirections.{HasKeys, keys_in}

-- ---- one by one

pub counted : (meants : List Direction) (founds : List Found) → AreDirections meants founds → length founds ≡ length meants
counted [] [] all = refl
counted [] (f ∷ founds) all = absurd all
counted (m ∷ meants) [] all = absurd all
counted (m ∷ meants) (f ∷ founds) all = ap suc (counted meants founds all.1)

pub fronts : (k : ℕ) (meants : List Direction) (founds : List Found) → AreDirections meants founds → AreDirections (take k meants) (take k founds)
fronts zero meants founds all = tt
fronts (suc k) [] [] all = tt
fronts (suc k) [] (f ∷ founds) all = absurd all
fronts (suc k) (m ∷ meants) [] all = absurd all
fronts (suc k) (m ∷ meants) (f ∷ founds) all = (all.0, fronts k meants founds all.1)

-- the direction that is meant at a place
pub record IsMeantAt (meants : List Direction) (i : ℕ) (found : Found) : Type 0 where
  pub meant : Direction
  pub stands : slice_get meants i ≡ Some meant
  pub is : IsDirection meant found

pub meant_at : (meants : List Direction) (founds : List Found) (i : ℕ) (found : Found) → AreDirections meants founds → slice_get founds i ≡ Some found → IsMeantAt meants i found
meant_at [] [] i found all at = let never : ⊥ = cc in absurd never
meant_at [] (f ∷ founds) i found all at = absurd all
meant_at (m ∷ meants) [] i found all at = absurd all
meant_at (m ∷ meants) (f ∷ founds) zero found all at = let same : f ≡ found = cc in record { meant = m; stands = refl; is = subst (IsDirection m) same all.0 }
meant_at (m ∷ meants) (f ∷ founds) (suc i) found all at =
    let more = meant_at meants founds i found all.1 at in
    record { meant = more.meant; stands = more.stands; is = more.is }

-- ---- numbers

numbers_same : (meant : Direction) (found : Found) → HasKeys meant → IsDirection meant found → numbers_found found ≡ meant.numbers
numbers_same meant found keys is = numbers_are (1 + leg_count meant.kind) meant.numbers found.tensor is.numbers keys

block_same : (name : List Token) (meants : List Direction) (founds : List Found) → ((d : Direction) → IsIn d meants → HasKeys d) → AreDirections meants founds → block_numbers founds name ≡ numbers_of name meants
block_same name [] [] keys all = refl
block_same name [] (f ∷ founds) keys all = absurd all
block_same name (m ∷ meants) [] keys all = absurd all
block_same name (m ∷ meants) (f ∷ founds) keys all =
    ap (λ b. map numbers_found (cond b (f ∷ block_directions founds name) (block_directions founds name))) (ap (λ own. same_name own name) all.0.block)
    ∙ by_name (is_of name m) (numbers_same m f (keys m (inl refl)) all.0) (block_same name meants founds (λ d there. keys d (inr there)) all.1)
  where
    by_name : (b : Bool) → numbers_found f ≡ m.numbers → block_numbers founds name ≡ numbers_of name meants
        → map numbers_found (cond b (f ∷ block_directions founds name) (block_directions founds name)) ≡ map tensor_of (cond b (m ∷ directions_of name meants) (directions_of name meants))
    by_name true first rest = ap₂ ◌∷◌ first rest
    by_name false first rest = rest

module _ (model : Model) (founds : List Found) (all : AreDirections (directions model) founds) where
  pub numbers_in : (name : List Token) → block_numbers founds name ≡ numbers_of name (directions model)
  numbers_in name = block_same name (directions model) founds (keys_in model) all

  pub numbers_before : (name : List Token) (k : ℕ) → block_numbers (take k founds) name ≡ numbers_of name (take k (directions model))
  numbers_before name k = block_same name (take k (directions model)) (take k founds) (λ d there. keys_in model d (in_front d k (directions model) there)) (fronts k (directions model) founds all)

  pub numbers_of_one : (meant : Direction) (found : Found) → IsIn meant (directions model) → IsDirection meant found → numbers_found found ≡ meant.numbers
  numbers_of_one meant found there is = numbers_same meant found (keys_in model meant there) is

  -- as many in a block
  pub length-block : (name : List Token) → length (block_directions founds name) ≡ length (directions_of name (directions model))
  length-block name =
      sym (length-map (block_directions founds name) numbers_found) ∙ ap length (numbers_in name) ∙ length-map (directions_of name (directions model)) tensor_of

-- ---- ranks

has_form : (name : List Token) (meant : Direction) (found : Found) → length (name_of meant) ≡ leg_count meant.kind → IsDirection meant found → found.block ≡ name → HasForm (1 + length name) found
has_form name meant found long is named =
    let names : name_of meant ≡ name = sym is.block ∙ named in
    let rank : leg_count meant.kind ≡ length name = sym long ∙ ap length names in
    record { rank_is = is.numbers.rank_is ∙ ap (λ n. 1 + n) rank; numbers = all_constant (1 + leg_count meant.kind) meant.numbers found.tensor is.numbers }

forms : (name : List Token) (meants : List Direction) (founds : List Found) → ((d : Direction) → IsIn d meants → length (name_of d) ≡ leg_count d.kind) → AreDirections meants founds
    → AllByRecursion (HasForm (1 + length name)) (block_directions founds name)
forms name [] [] long all = tt
forms name [] (f ∷ founds) long all = absurd all
forms name (m ∷ meants) [] long all = absurd all
forms name (m ∷ meants) (f ∷ founds) long all = by_name (is_named name f) refl (forms name meants founds (λ d there. long d (inr there)) all.1)
  where
    by_name : (b : Bool) → is_named name f ≡ b → AllByRecursion (HasForm (1 + length name)) (block_directions founds name)
        → AllByRecursion (HasForm (1 + length name)) (cond b (f ∷ block_directions founds name) (block_directions founds name))
    by_name true named rest = (has_form name m f (long m (inl refl)) all.0 (name_same f.block name named), rest)
    by_name false other rest = rest

-- tensors of a block have a side and a place for each token of its name
pub all_forms : (name : List Token) (meants : List Direction) (founds : List Found) → ((d : Direction) → IsIn d meants → length (name_of d) ≡ leg_count d.kind) → AreDirections meants founds
    → All (HasForm (1 + length name)) (block_directions founds name)
all_forms name meants founds long all = All-from_recursion (HasForm (1 + length name)) (block_directions founds name) (forms name meants founds long all)

pub have_form : (name : List Token) (meants : List Direction) (founds : List Found) → ((d : Direction) → IsIn d meants → length (name_of d) ≡ leg_count d.kind) → AreDirections meants founds → HaveForm founds name
have_form name meants founds long all = record { rank = 1 + length name; each = all_forms name meants founds long all }
