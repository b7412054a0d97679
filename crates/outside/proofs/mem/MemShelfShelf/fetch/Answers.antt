use Rattle.outside.proofs.mem.MemShelfShelf.fetch.Goals as goal

pub returns-clause-found : goal.returns-clause-found
returns-clause-found c = rw (← c.self.view_is) c.fetch.ensures.found
