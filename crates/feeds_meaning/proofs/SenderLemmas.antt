-- Who sends a line is of letters, and a line of nobody is told no user; also for the crates above.
use Rattle.std.proofs.Common.{◌≡◌, ℕ, true, false, Bool, List, [], ◌∷◌, ◌++◌, take, None, Some, Option, refl, sym, ap, ◌∙◌}
use Rattle.std.specs.Fmt.{digits}
use Rattle.std.specs.Prelude.{if◌then◌else◌, option_map, length, drop}
use Rattle.case_table.specs.Language.{refusal_names}
use Rattle.ftl_lexer.specs.Forms.{begins_name, continues_name, name_len}
use Rattle.command_text.specs.Refusals.{refusal_line}
use Rattle.command_text.specs.declared.refusal.Refusal.TheVariants.{BadSyntax, StoreFull}
use Rattle.users.specs.Sender.{Sent, after_space, may_be_user, sent_in, word_at}
use Rattle.users.specs.Tagged.{lines_for}
use Rattle.users.proofs.CallerLemmas.{lines_for_nobody}
use Rattle.feeds_meaning.specs.HeardLaw.{is_of_letters}
use Rattle.feeds_meaning.specs.Hub.{unheard}
use Rattle.exact.proofs.Items.{front_passes}

word_passes : (bytes : List ℕ) → is_of_letters (word_at bytes) ≡ true
word_passes [] = refl
word_passes (b ∷ bytes) = by_first (begins_name b) (take (name_len (b ∷ bytes)) (b ∷ bytes)) (front_passes continues_name (b ∷ bytes))
  where
    by_first : (begins : Bool) (word : List ℕ) → is_of_letters word ≡ true → is_of_letters (if begins then word else []) ≡ true
    by_first true word h = h
    by_first false word h = refl

user_is : (may : Bool) (word : List ℕ) (o : Option (List ℕ)) (s : Sent) →
    (if may then option_map (λ line. record { user = word; line = line }) o else None) ≡ Some s → s.user ≡ word
user_is false word o s e = absurd (cc)
user_is true word None s e = absurd (cc)
user_is true word (Some line) s e =
    let made : Sent = record { user = word; line = line } in
    let same : made ≡ s = cc in
    ap (λ (s : Sent). s.user) (sym same)

pub sender_is_of_letters : (bytes : List ℕ) (s : Sent) → sent_in bytes ≡ Some s → is_of_letters s.user ≡ true
sender_is_of_letters bytes s e =
    ap is_of_letters (user_is (may_be_user (word_at bytes)) (word_at bytes) (after_space (drop (length (word_at bytes)) bytes)) s e)
    ∙ word_passes bytes

pub unheard_for_nobody : (u : List ℕ) (sender : Option Sent) (rest : List ℕ) → is_of_letters u ≡ true →
    lines_for u (unheard sender ++ rest) ≡ lines_for u rest
unfolding refusal_line refusal_names digits
unheard_for_nobody u None rest hu = lines_for_nobody u (32 ∷ refusal_line BadSyntax) rest hu refl
unheard_for_nobody u (Some sent) rest hu = lines_for_nobody u (32 ∷ refusal_line StoreFull) rest hu refl
