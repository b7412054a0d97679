use Rattle.std.proofs.Common.{◌≡◌, ◌-◌, ◌+◌, ◌≤◌, length, drop, vec_len, vec_capacity}
use Rattle.ftl_lexer.specs.Tokens.{lexed}
use Rattle.ftl_lexer.proofs.Steps.{after}
use Rattle.ftl_lexer.proofs.buffer.fill.Given as goal

abbrev pub invariant-filling : goal.invariant-filling
invariant-filling l =
    record {
      within : l.at ≤ length l.line;
      short : length l.line ≤ 16384;
      room : vec_len l.tokens + (length l.line - l.at) ≤ vec_capacity l.tokens;
      all : length l.line ≤ vec_capacity l.tokens;
      same : after l.tokens.items (lexed 0 l.at (drop l.at l.line)) ≡ lexed 0 0 l.line;
    }

abbrev pub decreases-filling : goal.decreases-filling
decreases-filling l = length l.line - l.at
