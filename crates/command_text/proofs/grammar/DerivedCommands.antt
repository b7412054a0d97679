-- What is read as a command, the rules derive.
use Rattle.command_text.proofs.Names.{◌≡◌, ℕ, Bool, true, false, List, [], ◌∷◌, ◌++◌, Some, None, IsTrue, refl, sym, ◌∙◌, ap, subst, append_assoc, append-nil, eqb-true, if◌then◌else◌, ◌==◌, is_none, codes, bytes_eq, bytes_eq-Decides, ◌>>=◌, reserved_words, CLASS, REGION, INSERT, UPDATE, REMOVE, TICK, ASK, WATCH, KEEP, SHOW, DROP, LIST, SAVE, IMPORT, EXPORT, QUIT, Part, Verb, Name, Whole, Error, PointWord, Attrs, Parts, Last, ◌▸◌, is_verb, parts, Piece, NAME, Span, Steps, Capacity, Nearest, Value, Width, CommandTree, Notes, token_of, SpellsPart, part_verb, part_num, part_attrs, part_change, SpellsParts, no_parts, last_part, part_before, SpellsCommand, by_parts, Reader, Read, notes, before, front, class_head, class, region, insert_head, insert, update, remove, tick, ask, watch_head, watch, keep, show, save, import, export, nearest, must_head, must, may, index, range, by_key, by_name, by_token, command_begun, ended, command, command_of, WORD, SignedPlace, Num, attrs, QueryTree, Asking, Place, NamedSet, Change, place, settings, query, num}
use Rattle.command_text.specs.Tree
use Rattle.command_text.specs.inner.Reading.{point_word, drop}
use Rattle.command_text.proofs.grammar.Derived.{took_none, took_both, Derived, derived_as, Follows, follows, part_first, ends, next_first, name_follows, text_follows, whole_follows, radius_follows, num_follows, attrs_follow, points_follow, settings_follow, place_follows, change_by, query_follows, point_word_follows}

-- the tokens of a command after its first word
abbrev Behind : List ℕ → CommandTree → Notes → Notes → List Piece → Type 0
Behind word c s t xs = SpellsParts (parts c) s t (token_of word ∷ xs)

-- ---- Parts that stand before others, and what is read of a command after them

record Ahead (front : Parts → Parts) (s t : Notes) (xs : List Piece) : Type 0 where
  before : (ps : Parts) (u : Notes) (ys : List Piece) → SpellsParts ps t u ys → SpellsParts (front ps) s u (xs ++ ys)

both : {f g : Parts → Parts} {s t u : Notes} {xs ys : List Piece} → Ahead f s t xs → Ahead g t u ys → Ahead (λ ps. f (g ps)) s u (xs ++ ys)
both {f = f} {g = g} {s = s} {xs = xs} {ys = ys} d e = record {
  before = λ ps v zs rest.
      subst (SpellsParts (f (g ps)) s v) (sym (append_assoc xs ys zs)) (d.before (g ps) v (ys ++ zs) (e.before ps v zs rest));
}

-- the parts of the command are others after these, and the tokens spell the others
record Rest (front : Parts → Parts) (c : CommandTree) (s t : Notes) (xs : List Piece) : Type 0 where
  others : Parts
  are : parts c ≡ front others
  spelled : SpellsParts others s t xs

begun : {word : List ℕ} {c : CommandTree} {s t : Notes} {xs : List Piece} → IsTrue (is_verb word) → Rest (λ ps. Verb word ▸ ps) c s t xs
    → Behind word c s t xs
begun {word = word} {s = s} {t = t} {xs = xs} is d = subst (λ ps. SpellsParts ps s t (token_of word ∷ xs)) (sym d.are) (part_before (part_verb is) d.spelled)

behind : {word : List ℕ} {f : Reader → Read CommandTree} → IsTrue (is_verb word)
    → ((s t : Reader) (c : CommandTree) → f s ≡ Some (c, t) → Derived (Rest (λ ps. Verb word ▸ ps)) c s t) → Follows f (Behind word)
behind {word = word} is read =
    follows λ s t c e. derived_as (Rest (λ ps. Verb word ▸ ps)) (Behind word) (λ xs d. begun is d) (read s t c e)

-- a part by its own rule
as_part : {A : Type 0} {f : Reader → Read A} {R : A → Notes → Notes → List Piece → Type 0} (p : A → Part) → Follows f R
    → ((a : A) (s t : Notes) (xs : List Piece) → R a s t xs → SpellsPart (p a) s t xs) → Follows f (λ a. SpellsPart (p a))
as_part {R = R} p one by = follows λ s t a e. derived_as R (λ a. SpellsPart (p a)) (λ xs d. by a (notes s) (notes t) xs d) (one.derived s t a e)

num_part : (place : SignedPlace) → Follows (num place) (λ v. SpellsPart (Num place v))
num_part place = as_part (Num place) (num_follows place) (λ v s t xs d. part_num d)

attrs_part : Follows attrs (λ a. SpellsPart (Attrs a))
attrs_part = as_part Attrs attrs_follow (λ a s t xs d. part_attrs d)

module _ {front : Parts → Parts} {c : CommandTree} {t : Reader} where
  -- some parts, and those after them
  all_ahead : {A : Type 0} {f : Reader → Read A} {add : A → Parts → Parts} → Follows f (λ a. Ahead (add a)) → (s : Reader)
      (rest : A × Reader → Read CommandTree) → (f s >>= rest) ≡ Some (c, t)
      → ((a : A) (s1 : Reader) → rest (a, s1) ≡ Some (c, t) → Derived (Rest (λ ps. front (add a ps))) c s1 t) → Derived (Rest front) c s t
  all_ahead {add = add} some s rest e k =
      part_first some s rest e λ a s1 d e.
      let later = k a s1 e in
      record {
        taken = d.taken ++ later.taken;
        split = took_both d.split later.split;
        spelled = record {
          others = add a later.spelled.others;
          are = later.spelled.are;
          spelled = d.spelled.before later.spelled.others (notes t) later.taken later.spelled.spelled;
        };
      }

  -- the last part
  final : {A : Type 0} {f : Reader → Read A} {p : A → Part} → Follows f (λ a. SpellsPart (p a)) → (s : Reader) (make : A → CommandTree)
      → ◌>>=◌ {B = CommandTree × Reader} (f s) (λ a. Some (make a.0, a.1)) ≡ Some (c, t) → ((a : A) → parts (make a) ≡ front (Last (p a))) → Derived (Rest front) c s t
  final {p = p} one s make e is =
      part_first one s _ e λ a s1 d e. ends (Rest front) (make a) c s1 t e d.split (record { others = Last (p a); are = is a; spelled = last_part d.spelled })

  -- a query, which is the last
  asking : (s : Reader) (make : QueryTree → CommandTree) → ◌>>=◌ {B = CommandTree × Reader} (query s) (λ q. Some (make q.0, q.1)) ≡ Some (c, t)
      → ((q : QueryTree) → parts (make q) ≡ front (Asking q)) → Derived (Rest front) c s t
  asking s make e is = part_first query_follows s _ e λ q s1 d e. ends (Rest front) (make q) c s1 t e d.split (record { others = Asking q; are = is q; spelled = d.spelled })

  -- a place and settings, which are the last
  changing : (s : Reader) (make : Place → List NamedSet → CommandTree)
      → (place s >>= (λ p. ◌>>=◌ {B = CommandTree × Reader} (settings p.1) (λ ss. Some (make p.0 ss.0, ss.1)))) ≡ Some (c, t)
      → ((p : Place) (ss : List NamedSet) → parts (make p ss) ≡ front (Last (Change p ss))) → Derived (Rest front) c s t
  changing s make e is =
      part_first place_follows s _ e λ p s1 first e.
      part_first settings_follow s1 _ e λ ss s2 second e.
      ends (Rest front) (make p ss) c s2 t e (took_both first.split second.split)
      (record { others = Last (Change p ss); are = is p ss; spelled = last_part (part_change (change_by first.spelled second.spelled)) })

-- one part before others
one : {A : Type 0} {f : Reader → Read A} {p : A → Part} → Follows f (λ a. SpellsPart (p a)) → Follows f (λ a. Ahead (λ ps. p a ▸ ps))
one {p = p} part =
    follows λ s t a e.
    derived_as (λ a. SpellsPart (p a)) (λ a. Ahead (λ ps. p a ▸ ps)) (λ xs d. record { before = λ ps u ys rest. part_before d rest })
    (part.derived s t a e)

-- ---- Two and three parts that stand at the front of several commands

abbrev Two : {A B : Type 0} → (A → Part) → (B → Part) → A × B → Notes → Notes → List Piece → Type 0
Two p q head = Ahead (λ ps. p head.0 ▸ q head.1 ▸ ps)

insert_head_follows : Follows insert_head (Two Name Name)
unfolding insert_head
insert_head_follows =
    follows λ s t x e.
    part_first (one name_follows) s _ e λ c s1 d e.
    part_first (one name_follows) s1 _ e λ n s2 d' e.
    ends (Two Name Name) (c, n) x s2 t e (took_both d.split d'.split) (both d.spelled d'.spelled)

watch_head_follows : Follows watch_head (Two Name (Whole Span))
unfolding watch_head
watch_head_follows =
    follows λ s t x e.
    part_first (one name_follows) s _ e λ n s1 d e.
    part_first (one (whole_follows Span)) s1 _ e λ k s2 d' e.
    ends (Two Name (Whole Span)) (n, k) x s2 t e (took_both d.split d'.split) (both d.spelled d'.spelled)

must_head_follows : Follows must_head (Two Error (Whole Span))
unfolding must_head
must_head_follows =
    follows λ s t x e.
    part_first (one radius_follows) s _ e λ r s1 d e.
    part_first (one (whole_follows Span)) s1 _ e λ k s2 d' e.
    ends (Two Error (Whole Span)) (r, k) x s2 t e (took_both d.split d'.split) (both d.spelled d'.spelled)

-- the name, the capacity and the word `point` of a class
abbrev ClassHead : List ℕ × ℕ × Bool → Notes → Notes → List Piece → Type 0
ClassHead head = Ahead (λ ps. Name head.0 ▸ Whole Capacity head.1 ▸ PointWord head.2 ▸ ps)

class_head_follows : Follows class_head ClassHead
unfolding class_head
class_head_follows =
    follows λ s t x e.
    part_first (one name_follows) s _ e λ n s1 d e.
    part_first (one (whole_follows Capacity)) s1 _ e λ k s2 d' e.
    let w = point_word_follows s2 in
    ends ClassHead (n, k, (point_word s2).0) x (point_word s2).1 t e (took_both d.split (took_both d'.split w.split))
    (both d.spelled (both d'.spelled (record { before = λ ps u ys rest. part_before w.spelled rest })))

-- ---- The commands

class_follows : Follows class (Behind (codes "class"))
unfolding class reserved_words
class_follows = behind refl λ s t x e. all_ahead class_head_follows s _ e λ h s1 e. final attrs_part s1 (λ a. Tree.Class h.0 h.1 h.2 a) e (λ a. refl)

region_follows : Follows region (Behind (codes "region"))
unfolding region reserved_words
region_follows = behind refl λ s t x e. all_ahead (one name_follows) s _ e λ n s1 e. final points_follow s1 (λ ps. Tree.Region n ps) e (λ ps. refl)

insert_follows : Follows insert (Behind (codes "insert"))
unfolding insert reserved_words
insert_follows = behind refl λ s t x e. all_ahead insert_head_follows s _ e λ h s1 e. changing s1 (λ p ss. Tree.Insert h.0 h.1 p ss) e (λ p ss. refl)

update_follows : Follows update (Behind (codes "update"))
unfolding update reserved_words
update_follows = behind refl λ s t x e. all_ahead (one name_follows) s _ e λ n s1 e. changing s1 (λ p ss. Tree.Update n p ss) e (λ p ss. refl)

remove_follows : Follows remove (Behind (codes "remove"))
unfolding remove reserved_words
remove_follows = behind refl λ s t x e. final name_follows s (λ n. Tree.Remove n) e (λ n. refl)

tick_follows : Follows tick (Behind (codes "tick"))
unfolding tick reserved_words
tick_follows = behind refl λ s t x e. final (whole_follows Steps) s (λ k. Tree.Tick k) e (λ k. refl)

ask_follows : Follows ask (Behind (codes "ask"))
unfolding ask reserved_words
ask_follows = behind refl λ s t x e. all_ahead (one (whole_follows Span)) s _ e λ k s1 e. asking s1 (λ q. Tree.Ask k q) e (λ q. refl)

watch_follows : Follows watch (Behind (codes "watch"))
unfolding watch reserved_words
watch_follows = behind refl λ s t x e. all_ahead watch_head_follows s _ e λ h s1 e. asking s1 (λ q. Tree.Watch h.0 h.1 q) e (λ q. refl)

keep_follows : Follows keep (Behind (codes "keep"))
unfolding keep reserved_words
keep_follows = behind refl λ s t x e. all_ahead watch_head_follows s _ e λ h s1 e. asking s1 (λ q. Tree.Keep h.0 h.1 q) e (λ q. refl)

show_follows : Follows show (Behind (codes "show"))
unfolding show reserved_words
show_follows = behind refl λ s t x e. final name_follows s (λ n. Tree.Show n) e (λ n. refl)

drop_follows : Follows drop (Behind (codes "drop"))
unfolding drop reserved_words
drop_follows = behind refl λ s t x e. final name_follows s (λ n. Tree.Drop n) e (λ n. refl)

save_follows : Follows save (Behind (codes "save"))
unfolding save reserved_words
save_follows = behind refl λ s t x e. final text_follows s (λ w. Tree.Save w) e (λ w. refl)

import_follows : Follows import (Behind (codes "import"))
unfolding import reserved_words
import_follows = behind refl λ s t x e. all_ahead (one name_follows) s _ e λ n s1 e. final text_follows s1 (λ w. Tree.Import n w) e (λ w. refl)

export_follows : Follows export (Behind (codes "export"))
unfolding export reserved_words
export_follows = behind refl λ s t x e. all_ahead (one name_follows) s _ e λ n s1 e. final text_follows s1 (λ w. Tree.Export n w) e (λ w. refl)

nearest_follows : Follows nearest (Behind (codes "nearest"))
unfolding nearest reserved_words
nearest_follows =
    behind refl λ s t x e.
    all_ahead (one (whole_follows Span)) s _ e λ k s1 e.
    all_ahead (one (whole_follows Nearest)) s1 _ e λ n s2 e.
    all_ahead (one name_follows) s2 _ e λ o s3 e.
    final name_follows s3 (λ c. Tree.Nearest k n o c) e (λ c. refl)

must_follows : Follows must (Behind (codes "must"))
unfolding must reserved_words
must_follows = behind refl λ s t x e. all_ahead must_head_follows s _ e λ h s1 e. asking s1 (λ q. Tree.Must h.0 h.1 q) e (λ q. refl)

may_follows : Follows may (Behind (codes "may"))
unfolding may reserved_words
may_follows = behind refl λ s t x e. all_ahead must_head_follows s _ e λ h s1 e. asking s1 (λ q. Tree.May h.0 h.1 q) e (λ q. refl)

index_follows : Follows index (Behind (codes "index"))
unfolding index reserved_words
index_follows =
    behind refl λ s t x e.
    all_ahead (one name_follows) s _ e λ c s1 e.
    all_ahead (one name_follows) s1 _ e λ a s2 e.
    final (num_part Width) s2 (λ w. Tree.Index c a w) e (λ w. refl)

range_follows : Follows range (Behind (codes "range"))
unfolding range reserved_words
range_follows =
    behind refl λ s t x e.
    all_ahead (one (whole_follows Span)) s _ e λ k s1 e.
    all_ahead (one name_follows) s1 _ e λ c s2 e.
    all_ahead (one name_follows) s2 _ e λ a s3 e.
    all_ahead (one (num_part Value)) s3 _ e λ l s4 e.
    final (num_part Value) s4 (λ g. Tree.Range k c a l g) e (λ g. refl)

listing_follows : Follows (λ s. Some (Tree.Listing, s)) (Behind (codes "list"))
unfolding reserved_words
listing_follows = follows λ s t x e. ends (Behind (codes "list")) Tree.Listing x s t e (took_none s.rest) (last_part (part_verb refl))

quit_follows : Follows (λ s. Some (Tree.Quit, s)) (Behind (codes "quit"))
unfolding reserved_words
quit_follows = follows λ s t x e. ends (Behind (codes "quit")) Tree.Quit x s t e (took_none s.rest) (last_part (part_verb refl))

-- ---- By the first token

-- the tokens of a command after its first token
abbrev After : Piece → CommandTree → Notes → Notes → List Piece → Type 0
After first c s t xs = SpellsParts (parts c) s t (first ∷ xs)

-- one test of the first token
tested : (first : Piece) (word : List ℕ) {f : Reader → Read CommandTree} → Follows f (Behind word)
    → (s t : Reader) (x : CommandTree) (o : Read CommandTree) (b : Bool) → (b ≡ true → token_of word ≡ first)
    → (if b then f s else o) ≡ Some (x, t) → (o ≡ Some (x, t) → Derived (After first) x s t) → Derived (After first) x s t
tested first word follows s t x o true same e other =
    derived_as (Behind word) (After first) (λ xs d. subst (λ (p : Piece). After p x (notes s) (notes t) xs) (same refl) d) (follows.derived s t x e)
tested first word follows s t x o false same e other = other e

one_key : (code k : ℕ) (word : List ℕ) → token_of word ≡ WORD k → {f : Reader → Read CommandTree} → Follows f (Behind word)
    → (s t : Reader) (x : CommandTree) (o : Read CommandTree)
    → (if code == k then f s else o) ≡ Some (x, t) → (o ≡ Some (x, t) → Derived (After (WORD code)) x s t) → Derived (After (WORD code)) x s t
one_key code k word token follows s t x o e other = tested (WORD code) word follows s t x o (code == k) (λ is. token ∙ ap WORD (sym (eqb-true code k is))) e other

one_name : (name word : List ℕ) → token_of word ≡ NAME word → {f : Reader → Read CommandTree} → Follows f (Behind word)
    → (s t : Reader) (x : CommandTree) (o : Read CommandTree)
    → (if bytes_eq name word then f s else o) ≡ Some (x, t) → (o ≡ Some (x, t) → Derived (After (NAME name)) x s t)
    → Derived (After (NAME name)) x s t
one_name name word token follows s t x o e other =
    tested (NAME name) word follows s t x o (bytes_eq name word) (λ is. token ∙ ap NAME (sym ((bytes_eq-Decides name word).0 is))) e other

by_key_follows : (code : ℕ) (s t : Reader) (x : CommandTree) → by_key code s ≡ Some (x, t) → Derived (After (WORD code)) x s t
unfolding reserved_words
by_key_follows code s t x e =
    one_key code CLASS (codes "class") refl class_follows s t x _ e λ e.
    one_key code REGION (codes "region") refl region_follows s t x _ e λ e.
    one_key code INSERT (codes "insert") refl insert_follows s t x _ e λ e.
    one_key code UPDATE (codes "update") refl update_follows s t x _ e λ e.
    one_key code REMOVE (codes "remove") refl remove_follows s t x _ e λ e.
    one_key code TICK (codes "tick") refl tick_follows s t x _ e λ e.
    one_key code ASK (codes "ask") refl ask_follows s t x _ e λ e.
    one_key code WATCH (codes "watch") refl watch_follows s t x _ e λ e.
    one_key code KEEP (codes "keep") refl keep_follows s t x _ e λ e.
    one_key code SHOW (codes "show") refl show_follows s t x _ e λ e.
    one_key code DROP (codes "drop") refl drop_follows s t x _ e λ e.
    one_key code LIST (codes "list") refl listing_follows s t x _ e λ e.
    one_key code SAVE (codes "save") refl save_follows s t x _ e λ e.
    one_key code IMPORT (codes "import") refl import_follows s t x _ e λ e.
    one_key code EXPORT (codes "export") refl export_follows s t x _ e λ e.
    one_key code QUIT (codes "quit") refl quit_follows s t x _ e λ e.
    absurd (cc)

by_name_follows : (word : List ℕ) (s t : Reader) (x : CommandTree) → by_name word s ≡ Some (x, t) → Derived (After (NAME word)) x s t
unfolding reserved_words
by_name_follows word s t x e =
    one_name word (codes "nearest") refl nearest_follows s t x _ e λ e.
    one_name word (codes "must") refl must_follows s t x _ e λ e.
    one_name word (codes "may") refl may_follows s t x _ e λ e.
    one_name word (codes "index") refl index_follows s t x _ e λ e.
    one_name word (codes "range") refl range_follows s t x _ e λ e.
    absurd (cc)

by_token_follows : (p : Piece) (s t : Reader) (x : CommandTree) → by_token p s ≡ Some (x, t) → Derived (After p) x s t
by_token_follows (WORD code) s t x e = by_key_follows code s t x e
by_token_follows (NAME word) s t x e = by_name_follows word s t x e
by_token_follows p s t x e = absurd (cc)

abbrev SpellsRow : CommandTree → Notes → Notes → List Piece → Type 0
SpellsRow c = SpellsParts (parts c)

begun_follows : Follows command_begun SpellsRow
unfolding command_begun
begun_follows =
    follows λ s t x e.
    next_first s _ e λ p left token e.
    let d = by_token_follows p (before left (notes s)) t x e in
    record { taken = p ∷ d.taken; split = took_both token d.split; spelled = d.spelled }

-- no token is left after a command
record IsLast (c y : CommandTree × Reader) : Type 0 where
  same : c ≡ y
  end : c.1.rest ≡ []

nothing_left : (ps : List Piece) → is_none (front ps) ≡ true → ps ≡ []
nothing_left [] e = refl
nothing_left (p ∷ ps) e = absurd (cc)

ended_at_end : (c y : CommandTree × Reader) (b : Bool) → is_none (front c.1.rest) ≡ b → (if b then Some c else None) ≡ Some y → IsLast c y
ended_at_end c y true h e = record { same = cc; end = nothing_left c.1.rest h }
ended_at_end c y false h e = absurd (cc)

command_spells : (xs : List Piece) (s : Notes) (t : Reader) (c : CommandTree) → command (before xs s) ≡ Some (c, t) → SpellsCommand c s (notes t) xs
unfolding command
command_spells xs s t c e =
    part_first begun_follows (before xs s) ended e λ x s1 d e.
    let last = ended_at_end (x, s1) (c, t) (is_none (front s1.rest)) refl e in
    let tokens : d.taken ≡ xs = sym (d.split.is ∙ ap (λ left. d.taken ++ left) last.end ∙ append-nil d.taken) in
    subst (λ (r : CommandTree × Reader). SpellsCommand r.0 s (notes r.1) xs) last.same (subst (SpellsCommand x s (notes s1)) tokens (by_parts d.spelled))

-- what is read as a command, the rules derive
pub command_derived : (xs : List Piece) (c : CommandTree) (s : Notes) (t : Reader) → command_of (before xs s) ≡ Some (c, t) → SpellsCommand c s (notes t) xs
unfolding command_of
command_derived [] c s t e =
    let same : ◌≡◌ {A = CommandTree × Reader} (Tree.Nothing, before [] s) (c, t) = cc in
    subst (λ (r : CommandTree × Reader). SpellsCommand r.0 s (notes r.1) []) same (by_parts no_parts)
command_derived (p ∷ xs) c s t e = command_spells (p ∷ xs) s t c e
