-- The steps from values with one way to give the legs to a projected tensor with all ways.
use Rattle.std.specs.Prelude.{[], ◌∷◌}
use Rattle.sparse_tensor.specs.Operations.{Values, projected_at, symmetrised_at}
use Rattle.model_core.specs.declared.term.TermKind.{TermKind}
use Rattle.model_core.specs.declared.term.TermKind.TheVariants.{Fermion, Scalar}
use Rattle.term_expand.specs.declared.basis.Basis.{Basis}

-- two fermions exchanged, then each leg projected, the last one first
abbrev pub fermion_steps : Basis → Values → Values
fermion_steps basis f =
    projected_at 0 basis.fermion_links (projected_at 1 basis.fermion_links (projected_at 2 basis.scalar_links (symmetrised_at (0 ∷ 1 ∷ []) f)))

-- the same of four scalars
abbrev pub scalar_steps : Basis → Values → Values
scalar_steps basis f =
    projected_at 0 basis.scalar_links (projected_at 1 basis.scalar_links (projected_at 2 basis.scalar_links (projected_at 3 basis.scalar_links (symmetrised_at (0 ∷ 1 ∷ 2 ∷ 3 ∷ []) f))))

-- those of a kind of terms
abbrev pub steps : TermKind → Basis → Values → Values
steps Fermion basis f = fermion_steps basis f
steps Scalar basis f = scalar_steps basis f
