use Rattle.std.proofs.Common.{◌≡◌, ◌-◌, ◌≤◌, length, drop}
use Rattle.ftl_lexer.specs.Tokens.{lexed}
use Rattle.std.specs.Result.{result_err}
use Rattle.ftl_lexer.proofs.walk.bad_token.Given as goal

abbrev pub invariant-walking : goal.invariant-walking
invariant-walking l =
    record {
      within : l.at ≤ length l.line;
      same : result_err (lexed 0 l.at (drop l.at l.line)) ≡ result_err (lexed 0 0 l.line);
    }

abbrev pub decreases-walking : goal.decreases-walking
decreases-walking l = length l.line - l.at
