use Rattle.ftl_parser.proofs.Names.{◌≡◌, pieces_from, scan, first_from}
use Rattle.ftl_parser.specs.declared.scan.Coming.TheVariants as comings
use Rattle.ftl_parser.proofs.scan.first_unfit.Given as goal

-- the tokens that are left tell the same
abbrev pub invariant-loop-at : goal.invariant-loop-at
invariant-loop-at l =
    first_from l.at (scan l.before (pieces_from l.at l.tokens)) ≡ first_from l.from (scan comings.Factor (pieces_from l.from l.tokens))
