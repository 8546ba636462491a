-- The value at a key, by a look at each key.
use Rattle.std.proofs.Common.{◌≡◌, ℕ, List, ◌∷◌, true, false, cond, String, Global, string_bytes, Some, Ordering, Less, Equal, Greater, nat_cmp, is_eq, refl, ap, ◌∙◌}
use Rattle.std.proofs.lemmas.Map.Text.{is_eq-slice_cmp}
use Rattle.std.specs.Cmp.Lexicographic.{slice_cmp}
use Rattle.std.specs.Ordering.{match_ordering}
use Rattle.std.specs.Str.{bytes_eq}
use Rattle.toml.specs.Data.{Data, Members, member, get_member}
use Rattle.toml.specs.View.{view, members_view}
use Rattle.toml.specs.declared.value.Value.{Value}

equal_or_not : {A : Type 0} (order : Ordering) (found rest : A) → match_ordering order rest found rest ≡ cond (is_eq order) found rest
equal_or_not Less found rest = refl
equal_or_not Equal found rest = refl
equal_or_not Greater found rest = refl

-- the first member's value where its key is the wanted one, else what the other members have
pub get_member-first : (key first : List ℕ) (value : Data) (rest : Members)
    → get_member key (member first value rest) ≡ cond (bytes_eq key first) (Some value) (get_member key rest)
get_member-first key first value rest =
    equal_or_not (slice_cmp nat_cmp key first) (Some value) (get_member key rest)
    ∙ ap (λ same. cond same (Some value) (get_member key rest)) (is_eq-slice_cmp key first)

-- the first entry that is left has the wanted key
pub found_here : (key bytes : List ℕ) (all : Members) (first : String Global) (value : Value) (left rest : List (String Global × Value))
    → get_member key all ≡ get_member key (members_view left) → left ≡ (first, value) ∷ rest → bytes ≡ string_bytes first
    → bytes_eq key bytes ≡ true → Some (view value) ≡ get_member key all
found_here key bytes all first value left rest so_far next spelt same =
    let here : bytes_eq key (string_bytes first) ≡ true = rw (← spelt) same in
    rw (so_far, next, get_member-first key (string_bytes first) (view value) (members_view rest), here)

-- the first entry that is left has another key
pub found_later : (key bytes : List ℕ) (all : Members) (first : String Global) (value : Value) (left rest : List (String Global × Value))
    → get_member key all ≡ get_member key (members_view left) → left ≡ (first, value) ∷ rest → bytes ≡ string_bytes first
    → bytes_eq key bytes ≡ false → get_member key all ≡ get_member key (members_view rest)
found_later key bytes all first value left rest so_far next spelt other =
    let here : bytes_eq key (string_bytes first) ≡ false = rw (← spelt) other in
    rw (so_far, next, get_member-first key (string_bytes first) (view value) (members_view rest), here)
