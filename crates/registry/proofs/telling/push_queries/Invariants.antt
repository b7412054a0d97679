use Rattle.std.proofs.Common.{◌≡◌, ◌++◌, take}
use Rattle.std.specs.List.{flat_map}
use Rattle.line_meaning.specs.Reply.{registration_line}
use Rattle.reply_text.specs.Begins.{Begins}
use Rattle.registry.specs.Standing.{registration_of}
use Rattle.registry.proofs.telling.push_queries.Given as goal

-- the lines of the queries so far
abbrev pub invariant-queries : goal.invariant-queries
invariant-queries l = record {
  whole : l.out.items ≡ l.fn.out.items ++ flat_map (λ k. registration_line (registration_of k)) (take l.place l.live);
  begins : Begins l.fn.out.items l.out.items;
}
