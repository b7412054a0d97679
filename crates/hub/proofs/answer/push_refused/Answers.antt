use Rattle.std.proofs.Common.{◌++◌, ◌∙◌, ap}
use Rattle.hub.specs.Told.{held_user, held_users}
use Rattle.hub.proofs.DeskLemmas.{user_at}
use Rattle.hub.proofs.SentLemmas.{refused_at, user_is_short}
use Rattle.command_text.specs.Refusals.{refusal_line}
use Rattle.line_meaning.specs.Reply.{line_feed}
use Rattle.hub.proofs.answer.push_refused.Goals as goal

pub push_tagged-requires : goal.push_tagged-requires
push_tagged-requires c =
    let seats = held_users c.args.parts.now.seats.items in
    let s = held_user c.index.result.now in
    user_is_short c.args.parts.now.data_lines seats c.args.place s c.bytes.result.now c.requires.hub.hub
    (user_at c.args.parts.now.seats.items c.args.place c.index.result.now c.requires.there c.index.ensures) c.bytes.ensures.value

pub returns-clause-said : goal.returns-clause-said
returns-clause-said c = λ x found.
    let seats = held_users c.args.parts.now.seats.items in
    let s = held_user c.index.result.now in
    refused_at seats c.args.place s x c.args.refusal c.args.out.now.items c.push_tagged.new.out.items c.bytes.result.now c.deref.result.now
    (user_at c.args.parts.now.seats.items c.args.place c.index.result.now c.requires.there c.index.ensures) found c.in_ok-push_tagged.ensures.ok c.bytes.ensures.value
    (c.deref.ensures.value ∙ c.in_ok-push_refusal.ensures.ok ∙ ap (λ l. l ++ (refusal_line c.args.refusal ++ line_feed)) c.clear.ensures.items)
