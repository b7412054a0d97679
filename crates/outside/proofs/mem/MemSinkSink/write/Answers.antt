use Rattle.outside.proofs.Pieces.{Writes-front}
use Rattle.outside.proofs.mem.MemSinkSink.write.Goals as goal

-- what was appended is also the front of the whole piece
pub returns-clause-bytes : goal.returns-clause-bytes
returns-clause-bytes c = rw (← c.self.view_is) (Writes-front _ _ c.write.result c.min-most.result c.args.piece.now c.write.ensures.bytes c.write.ensures.bound)
