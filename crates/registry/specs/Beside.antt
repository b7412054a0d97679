-- The refusals of a query by what decides of the registered ones.
use Rattle.std.specs.Prelude.{ℕ, nat_le, Option}
use Rattle.history.specs.World.{World}
use Rattle.formula.specs.declared.limits.TheConstants.{QUERY_LIMIT}
use Rattle.command_text.specs.declared.refusal.Refusal.{Refusal}
use Rattle.ftl_parser.specs.Tree.{QueryTree}
use Rattle.line_meaning.specs.Ask.{bindings_asked, is_past_span}
use Rattle.line_meaning.specs.FirstFault.{refusal_in_order, size_refusal_by, type_refusal}
use Rattle.line_meaning.specs.QueryFault.{passes_beside}
use Rattle.registry.specs.declared.judging.Others.{Others}

abbrev pub size_refusal_beside : World → ℕ → Others → ℕ → QueryTree → Option Refusal
size_refusal_beside w now others span q = size_refusal_by
    (is_past_span now span q.formula)
    (nat_le QUERY_LIMIT others.count)
    (passes_beside (bindings_asked w q) others.bindings)

abbrev pub refusal_beside : World → ℕ → Others → ℕ → QueryTree → Option Refusal
refusal_beside w now others span q = refusal_in_order (type_refusal w q) others.taken (size_refusal_beside w now others span q)
