-- The rows of a polynomial in the CSV form.
use Rattle.std.proofs.Common.{◌≡◌, refl, ℕ, List, [], ◌∷◌, ◌++◌, length, map, ◌∙◌}
use Rattle.std.specs.List.{flat_map}
use Rattle.std.proofs.lemmas.List.Folds.{flat_map-map}
use Rattle.csv.specs.Writing.{row_text, default_writer}
use Rattle.beta_poly.specs.Polynomial.{Terms}
use Rattle.derive_core.specs.declared.betas.Target.{Target}
use Rattle.print_beta.specs.Csv.{term_fields, value_fields}

-- a polynomial that isn't zero has a row for each term
pub value_rows : (front : List (List ℕ)) (targets : List Target) (es : Terms) → (length es ≡ 0 → ⊥)
    → flat_map (row_text default_writer) (map (λ term. front ++ term) (value_fields targets es)) ≡ flat_map (λ e. row_text default_writer (front ++ term_fields targets e)) es
value_rows front targets [] some = absurd (some refl)
value_rows front targets (e ∷ es) some =
    flat_map-map (row_text default_writer) (λ term. front ++ term) (map (term_fields targets) (e ∷ es))
    ∙ flat_map-map (λ term. row_text default_writer (front ++ term)) (term_fields targets) (e ∷ es)
