-- How names, keys and registers are stored as values of models.
use Rattle.std.specs.Prelude.{◌≡◌, ℕ, zero, suc, List, refl}
use Rattle.std.proofs.Common.{ap}
use Rattle.std.specs.Coded.{Coded, code_by, coded×, coded_ℕ, coded_list}
use Rattle.std.specs.FinMap.{FinMap, code}
use Rattle.model_core.specs.declared.format.Format.{Format}
use Rattle.model_core.specs.declared.format.Format.TheVariants.{Text, Latex, Csv}
use Rattle.register_core.specs.Register.{Key, Register, name_cmp, key_cmp, format_place}

-- bytes as the list of their numbers
abbrev pub coded_bytes : Coded (List ℕ)
coded_bytes = coded_list coded_ℕ

-- the format at a place among the three
abbrev pub format_at : ℕ → Format
format_at zero = Text
format_at (suc zero) = Latex
format_at (suc (suc place)) = Csv

pub format_back : (form : Format) → format_at (format_place form) ≡ form
format_back Text = refl
format_back Latex = refl
format_back Csv = refl

-- a key as the tuple of its fields, with the format's place
abbrev pub coded_key : Coded Key
coded_key =
    code_by (List ℕ × (ℕ × (ℕ × ℕ))) (coded× coded_bytes (coded× coded_ℕ (coded× coded_ℕ coded_ℕ)))
    (λ k. (k.name, (k.version, (k.loops, format_place k.format)))) (λ p. record { name = p.0; version = p.1.0; loops = p.1.1.0; format = format_at p.1.1.1 })
    (λ k. ap (λ form. record { name = k.name; version = k.version; loops = k.loops; format = form }) (format_back k.format))

-- the versions by name
abbrev pub coded_models : Coded (FinMap name_cmp (List (List ℕ)))
coded_models = code coded_bytes (coded_list coded_bytes)

-- the outputs by key
abbrev pub coded_runs : Coded (FinMap key_cmp (List ℕ))
coded_runs = code coded_key coded_bytes

-- a register as the pair of its maps
abbrev pub coded_register : Coded Register
coded_register =
    code_by (FinMap name_cmp (List (List ℕ)) × FinMap key_cmp (List ℕ)) (coded× coded_models coded_runs)
    (λ r. (r.models, r.runs)) (λ p. record { models = p.0; runs = p.1 }) (λ _. refl)
