use Rattle.std.proofs.Common.{length, ap, arith}
use Rattle.ftl_typer.proofs.SizeLemmas.{sphere_names}
use Rattle.ftl_typer.proofs.atoms.note_atom.Goals as goal

pub note_points-requires : goal.note_points-requires
note_points-requires c =
    let names = sphere_names c.args.atom.now c.in-Sphere.field-0 c.in-Sphere.objects c.in-Sphere.is in
    omega (arith, ap length c.items.ensures)

pub overflow_add-result-in-Sphere : goal.overflow_add-result-in-Sphere
overflow_add-result-in-Sphere c =
    let names = sphere_names c.args.atom.now c.in-Sphere.field-0 c.in-Sphere.objects c.in-Sphere.is in
    omega (arith, ap length c.items-in-Sphere.ensures)

pub returns-in-Sphere-clause-names : goal.returns-in-Sphere-clause-names
returns-in-Sphere-clause-names c =
    let names = sphere_names c.args.atom.now c.in-Sphere.field-0 c.in-Sphere.objects c.in-Sphere.is in
    omega (arith, ap length c.items-in-Sphere.ensures)
