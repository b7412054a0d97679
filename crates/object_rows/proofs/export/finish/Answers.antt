use Rattle.object_rows.proofs.export.finish.Goals as goal

pub returns : goal.returns
returns c = tt
