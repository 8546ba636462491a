-- All lines of a model: those of gauge couplings, and then what is told of blocks.
use Rattle.std.specs.Prelude.{◌≡◌, ◌++◌, ℕ, List}
use Rattle.std.specs.List.{flat_map}
use Rattle.std.proofs.Common.{sym, ap, ◌∙◌, append_assoc}
use Rattle.model_core.specs.declared.model.Model.{Model}
use Rattle.derive_core.specs.Lines.{gauge_lines, coupling_lines, open_line, generated_line, block_lines}
use Rattle.derive_core.specs.Works.{AreLines, IsWholeTold}
use Rattle.derive_core.specs.declared.betas.Line.{Line}
use Rattle.derive_core.specs.declared.outcomes.Told.{Told}

-- the lines of couplings, of open blocks and of generated ones, one after the other
pub told_lines : (model : Model) (told : List Told) (first second third : List Line) → second ≡ first ++ coupling_lines model told → third ≡ second ++ flat_map (open_line model) told
    → first ++ block_lines model told ≡ third ++ flat_map (generated_line model) told
told_lines model told first second third couplings open_blocks =
    let own = coupling_lines model told in
    let others = flat_map (open_line model) told in
    let last = flat_map (generated_line model) told in
    sym (ap (λ ls. ls ++ last) (open_blocks ∙ ap (λ ls. ls ++ others) couplings ∙ append_assoc first own others) ∙ append_assoc first (own ++ others) last)

pub are_lines : (loops : ℕ) (model : Model) (told : List Told) (first all : List Line) → first ≡ gauge_lines loops model → IsWholeTold model told → all ≡ first ++ block_lines model told → AreLines loops all model
are_lines loops model told first all gauge whole is = record { told = told; are = whole.are; is = is ∙ ap (λ ls. ls ++ block_lines model told) gauge }
