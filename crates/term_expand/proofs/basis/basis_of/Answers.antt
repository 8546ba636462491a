use Rattle.std.proofs.Common.{◌∙◌, ap, length}
use Rattle.term_expand.proofs.BasisLaws.{fermion_projectors, scalar_projectors}
use Rattle.term_expand.proofs.basis.basis_of.Goals as goal

pub returns-clause-value : goal.returns-clause-value
returns-clause-value c =
    let model = c.args.model.now in
    record {
      fermions = c.in_ok-fermions.ensures;
      scalars = c.in_ok-scalars.ensures;
      fermion_links = fermion_projectors model c.as_slice-groups.result.now c.as_slice.result.now c.as_slice-2.result.now c.in_ok-fermion_links.fermion_links c.as_slice-groups.ensures c.as_slice.ensures (c.as_slice-2.ensures ∙ c.in_ok-fermions.ensures) c.in_ok-fermion_links.ensures.value;
      scalar_links = scalar_projectors model c.as_slice-groups.result.now c.as_slice-3.result.now c.as_slice-4.result.now c.in_ok-others.others c.in_ok-scalar_links.scalar_links c.len.result c.as_slice-groups.ensures c.as_slice-3.ensures (c.as_slice-4.ensures ∙ c.in_ok-scalars.ensures) c.in_ok-others.ensures.value (c.len.ensures ∙ ap length c.in_ok-scalars.ensures) c.in_ok-scalar_links.ensures.value;
    }
