-- What holds of each user goes on to hold.
use Rattle.std.proofs.Common.{◌≡◌, ℕ, ◌+◌, ◌*◌, ◌<◌, ◌≤◌, true, false, List, [], ◌∷◌, ◌++◌, length, map, None, refl, sym, ap, ◌∙◌, append-nil, length-append, inl, inr, arith}
use Rattle.std.proofs.lemmas.Bool.{cases_Bool}
use Rattle.std.proofs.lemmas.Bool.Decides.{nat_tests}
use Rattle.std.proofs.lemmas.List.{map-append}
use Rattle.exact.specs.First.{or_else}
use Rattle.command_text.specs.Journal.{Accepted, bytes_of, clock, is_kept}
use Rattle.command_text.specs.Shape.{IsPrintable}
use Rattle.command_text.specs.Text.{text_of}
use Rattle.command_text.specs.Tree.{CommandTree}
use Rattle.line_meaning.specs.Fault.{fault_among, journal_refusal, passes_limits}
use Rattle.line_meaning.specs.Journal.{world}
use Rattle.line_meaning.specs.Judging.{Held, all_after, fault_of, held, held_after}
use Rattle.line_meaning.specs.Reached.{AreReached}
use Rattle.session_file.specs.declared.kept.TheConstants.{SESSION_LINE_LIMIT}
use Rattle.feeds_meaning.specs.declared.limits.TheConstants.{DATA_LINES_LIMIT, QUERY_LINES_LIMIT}
use Rattle.feeds_meaning.specs.Heard.{count_with_line}
use Rattle.feeds_meaning.specs.Hub.{Seated, newcomer}
use Rattle.feeds_meaning.specs.Lines.{is_data, is_of_queries}
use Rattle.hub.specs.Seats.{IsUser, data_commands, data_entries}
use Rattle.hub.proofs.DataLemmas.{data_clock, data_fault, data_more, data_world, few_bytes, or_none}
use Rattle.hub.proofs.KindLemmas.{of_data}
use Rattle.hub.proofs.NewcomerLemmas.{newcomer_holds}

-- what an accepted command leaves of a journal that steps lead to is such a journal
abbrev pub ReachesMore : Type 0
ReachesMore = (h : Held) (c : CommandTree) → IsPrintable c → length (text_of c) ≤ SESSION_LINE_LIMIT → fault_of h c ≡ None → AreReached [] h.journal →
    AreReached [] (held_after h c).journal

-- a command that is read
pub record IsShort (c : CommandTree) : Type 0 where
  pub printable : IsPrintable c
  pub short : length (text_of c) ≤ SESSION_LINE_LIMIT

-- ---- A data command that one user's lines don't refuse isn't refused by another's

-- users have the same data commands, at the same ticks
same_entries : (accepted : List CommandTree) (s t : Seated) → IsUser accepted s → IsUser accepted t →
    data_entries s.seat.held.journal ≡ data_entries t.seat.held.journal
same_entries accepted s t user other =
    let mine = newcomer_holds s.seat.held.journal user.reached in
    let others = newcomer_holds t.seat.held.journal other.reached in
    let same : held (data_entries s.seat.held.journal) ≡ held (data_entries t.seat.held.journal) =
    sym mine ∙ ap (λ cs. (newcomer cs).held) (user.shared ∙ sym other.shared) ∙ others in
    ap (λ (h : Held). h.journal) same

same_fault : (a b : List Accepted) (c : CommandTree) → data_entries a ≡ data_entries b → fault_among (world a) (clock a) c ≡ fault_among (world b) (clock b) c
same_fault a b c e =
    let w : world a ≡ world b = sym (data_world a) ∙ ap world e ∙ data_world b in
    let t : clock a ≡ clock b = sym (data_clock a) ∙ ap clock e ∙ data_clock b in
    λ i. fault_among (w i) (t i) c

-- so few entries leave room for one more
few_pass : (entries bytes line : ℕ) → entries < DATA_LINES_LIMIT + QUERY_LINES_LIMIT → bytes ≤ (SESSION_LINE_LIMIT + 1) * entries → line ≤ SESSION_LINE_LIMIT →
    passes_limits entries bytes line ≡ false
few_pass entries bytes line few less short = grind (arith, nat_tests)

pub refused_alike : (accepted : List CommandTree) (s t : Seated) (c : CommandTree) → IsUser accepted s → IsUser accepted t → is_data c ≡ true → IsShort c →
    length accepted < DATA_LINES_LIMIT → fault_of s.seat.held c ≡ None → fault_of t.seat.held c ≡ None
refused_alike accepted s t c user other is c_short few fault =
    let mine = s.seat.held.journal in
    let others = t.seat.held.journal in
    let by_mine = sym (data_fault s.seat.held c is) ∙ fault in
    let first = or_none (or_else (fault_among (world mine) (clock mine) c) None) (journal_refusal (length mine) (bytes_of mine) c) by_mine in
    let told = (or_none (fault_among (world mine) (clock mine) c) None first.0).0 in
    let same : fault_among (world others) (clock others) c ≡ None = sym (same_fault mine others c (same_entries accepted s t user other)) ∙ told in
    let entries = other.entries in
    let lines = other.data_lines in
    let queries = other.few in
    let pass : passes_limits (length others) (bytes_of others) (length (text_of c)) ≡ false =
    few_pass (length others) (bytes_of others) (length (text_of c)) (omega arith) (few_bytes others other.reached) c_short.short in
    data_fault t.seat.held c is ∙ rw (same, (of_data c is).kept, pass) refl

-- ---- A data command that is accepted

data_added : (j : List Accepted) (t : ℕ) (c : CommandTree) → is_data c ≡ true → data_commands (j ++ (t, c) ∷ []) ≡ data_commands j ++ c ∷ []
data_added j t c is =
    let more : data_entries (j ++ (t, c) ∷ []) ≡ data_entries j ++ (t, c) ∷ [] = data_more j (t, c) ∙ rw is refl in
    ap (map (λ (e : Accepted). e.1)) more ∙ map-append (λ (e : Accepted). e.1) (data_entries j) ((t, c) ∷ [])

abbrev pub after_data : Seated → CommandTree → Seated
after_data s c = record {
  user = s.user;
  seat = record { held = held_after s.seat.held c; here = true; data_lines = s.seat.data_lines + 1; query_lines = s.seat.query_lines };
}

pub user_of_data : (accepted : List CommandTree) (s : Seated) (c : CommandTree) → ReachesMore → IsUser accepted s → is_data c ≡ true → IsShort c →
    fault_of s.seat.held c ≡ None → IsUser (accepted ++ c ∷ []) (after_data s c)
user_of_data accepted s c reaches user is c_short fault =
    let j = s.seat.held.journal in
    let kept = (of_data c is).kept in
    let goes : (held_after s.seat.held c).journal ≡ j ++ (clock j, c) ∷ [] = rw kept refl in
    let long : length (held_after s.seat.held c).journal ≡ length j + 1 = ap length goes ∙ length-append j ((clock j, c) ∷ []) in
    let all : length (accepted ++ c ∷ []) ≡ length accepted + 1 = length-append accepted (c ∷ []) in
    let lines = user.data_lines in
    let entries = user.entries in
    record {
      reached = reaches s.seat.held c c_short.printable c_short.short fault user.reached;
      shared = ap data_commands goes ∙ data_added j (clock j) c is ∙ ap (λ cs. cs ++ c ∷ []) user.shared;
      here = refl;
      data_lines = omega arith;
      entries = omega arith;
      few = user.few;
      short = user.short;
    }

-- ---- Any other command of the user's own

other_added : (j : List Accepted) (t : ℕ) (c : CommandTree) → is_data c ≡ false → data_commands (j ++ (t, c) ∷ []) ≡ data_commands j
other_added j t c other =
    ap (map (λ (e : Accepted). e.1)) (data_more j (t, c) ∙ rw other (append-nil (data_entries j)))

abbrev pub after_other : Seated → CommandTree → Seated
after_other s c = record {
  user = s.user;
  seat = record {
    held = all_after s.seat.held c;
    here = true;
    data_lines = s.seat.data_lines;
    query_lines = count_with_line (is_of_queries c) s.seat.query_lines;
  };
}

pub user_of_other : (accepted : List CommandTree) (s : Seated) (c : CommandTree) → ReachesMore → IsUser accepted s → is_data c ≡ false → IsShort c →
    (is_of_queries c ≡ true → s.seat.query_lines < QUERY_LINES_LIMIT) → fault_of s.seat.held c ≡ None → IsUser accepted (after_other s c)
user_of_other accepted s c reaches user other c_short room fault = elim (cases_Bool (is_kept c)) [
  | inl kept ↦
      let j = s.seat.held.journal in
      let goes : (held_after s.seat.held c).journal ≡ j ++ (clock j, c) ∷ [] = rw kept refl in
      let long : length (held_after s.seat.held c).journal ≡ length j + 1 = ap length goes ∙ length-append j ((clock j, c) ∷ []) in
      let queries : is_of_queries c ≡ true = rw (kept, other) refl in
      let more : count_with_line (is_of_queries c) s.seat.query_lines ≡ s.seat.query_lines + 1 = rw queries refl in
      let few = room queries in
      let entries = user.entries in
      record {
        reached = reaches s.seat.held c c_short.printable c_short.short fault user.reached;
        shared = ap data_commands goes ∙ other_added j (clock j) c other ∙ user.shared;
        here = refl;
        data_lines = user.data_lines;
        entries = omega arith;
        few = omega arith;
        short = user.short;
      }
  | inr gone ↦
      let j = s.seat.held.journal in
      let goes : (held_after s.seat.held c).journal ≡ j = rw gone (append-nil j) in
      let long : length (held_after s.seat.held c).journal ≡ length j = ap length goes in
      let none : count_with_line (is_of_queries c) s.seat.query_lines ≡ s.seat.query_lines = rw gone refl in
      let entries = user.entries in
      let queries = user.few in
      record {
        reached = reaches s.seat.held c c_short.printable c_short.short fault user.reached;
        shared = ap data_commands goes ∙ user.shared;
        here = refl;
        data_lines = user.data_lines;
        entries = omega arith;
        few = omega arith;
        short = user.short;
      }
]
