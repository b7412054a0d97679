use Rattle.std.proofs.Common.{◌≡◌, None, Some, refl, sym, ap, ◌∙◌}
use Rattle.outside.specs.Shelf.{Texts}
use Rattle.session.proofs.FileLemmas.{class_told, found_text, import_is_applied, rows_looks}
use Rattle.session.proofs.UntoldLemmas.{no_text, some_fails, some_lacks, some_no_file, some_text, some_unknown}
use Rattle.session.proofs.filing.import.Goals as goal

pub returns-in-Ok-Some-clause-answered : goal.returns-in-Ok-Some-clause-answered
returns-in-Ok-Some-clause-answered g c =
    let told = g.F.Shelf.texts c.args.shelf.now in
    let journal = c.args.state.now.journal in
    let class = c.args.class.now in
    let text = c.deref.result.now in
    let found : (texts : Texts) → told ≡ Some texts → Some text ≡ texts c.args.file.now = λ texts is.
    ap Some c.deref.ensures.value
    ∙ found_text _ c.in-Ok-Some.field-0 c.in-Ok-Some.text _ (c.in-Ok-Some.ensures.found texts is) c.in-Ok-Some.field-0-is
    ∙ ap texts c.bytes.ensures.value in
    record {
      applied = import_is_applied told (g.F.Shelf.texts c.fetch.new.self) journal class c.args.file.now c.args.out.now.items
          c.fetch.ensures.unchanged
          (class_told journal c.args.state.now.database c.requires.state.keeps class None (sym c.class_refusal.ensures ∙ c.in_default.is))
          text found c.import_text.new.state.journal c.import_text.new.out.items c.import_text.result c.import_text.ensures.imports;
      steps = c.import_text.ensures.steps;
      most = λ texts suffices.
          rows_looks told journal class c.args.file.now text found c.args.reads.now c.import_text.new.reads
          c.import_text.ensures.most c.import_text.ensures.idle texts (suffices refl);
      plain = λ no. absurd (cc no);
    }

pub import_text-requires-clause-class : goal.import_text-requires-clause-class
import_text-requires-clause-class g c = record {
  known = class_told c.args.state.now.journal c.args.state.now.database c.requires.state.keeps c.args.class.now None
      (sym c.class_refusal.ensures ∙ c.in_default.is);
  name = c.requires.name;
}

pub returns-in-Ok-Some-clause-some : goal.returns-in-Ok-Some-clause-some
returns-in-Ok-Some-clause-some g c =
    let told = g.F.Shelf.texts c.args.shelf.now in
    let journal = c.args.state.now.journal in
    let class = c.args.class.now in
    let text = c.deref.result.now in
    let found : (texts : Texts) → told ≡ Some texts → Some text ≡ texts c.args.file.now = λ texts is.
    ap Some c.deref.ensures.value
    ∙ found_text _ c.in-Ok-Some.field-0 c.in-Ok-Some.text _ (c.in-Ok-Some.ensures.found texts is) c.in-Ok-Some.field-0-is
    ∙ ap texts c.bytes.ensures.value in
    some_text told journal class c.args.file.now c.args.out.now.items c.args.reads.now c.args.probes.now
    (class_told journal c.args.state.now.database c.requires.state.keeps class None (sym c.class_refusal.ensures ∙ c.in_default.is))
    text found c.import_text.new.state.journal c.import_text.new.out.items c.import_text.new.reads c.import_text.new.probes
    c.import_text.result c.import_text.ensures.imports c.import_text.ensures.most c.import_text.ensures.idle

pub returns-in-Some-clause-some : goal.returns-in-Some-clause-some
returns-in-Some-clause-some g c =
    let told = g.F.Shelf.texts c.args.shelf.now in
    let journal = c.args.state.now.journal in
    let class = c.args.class.now in
    some_unknown told journal class c.args.file.now c.args.out.now.items c.args.reads.now c.args.probes.now c.in-Some.refusal
    (class_told journal c.args.state.now.database c.requires.state.keeps class (Some c.in-Some.refusal) (sym c.class_refusal.ensures ∙ c.in-Some.is))

pub returns-in-Ok-None-clause-some : goal.returns-in-Ok-None-clause-some
returns-in-Ok-None-clause-some g c =
    let told = g.F.Shelf.texts c.args.shelf.now in
    let journal = c.args.state.now.journal in
    let class = c.args.class.now in
    let found : (texts : Texts) → told ≡ Some texts → None ≡ texts c.args.file.now = λ texts is.
    no_text _ c.in-Ok-None.field-0 _ (c.in-Ok-None.ensures.found texts is) c.in-Ok-None.field-0-is ∙ ap texts c.bytes.ensures.value in
    some_no_file told journal class c.args.file.now c.args.out.now.items c.args.reads.now c.args.probes.now
    (class_told journal c.args.state.now.database c.requires.state.keeps class None (sym c.class_refusal.ensures ∙ c.in_default.is))
    found

pub returns-in-Err-Failed-clause-some : goal.returns-in-Err-Failed-clause-some
returns-in-Err-Failed-clause-some g c =
    let told = g.F.Shelf.texts c.args.shelf.now in
    let journal = c.args.state.now.journal in
    let class = c.args.class.now in
    some_fails told journal class c.args.file.now c.args.out.now.items c.args.reads.now c.args.probes.now
    (class_told journal c.args.state.now.database c.requires.state.keeps class None (sym c.class_refusal.ensures ∙ c.in_default.is))

pub returns-in-Err-NoMemory-clause-some : goal.returns-in-Err-NoMemory-clause-some
returns-in-Err-NoMemory-clause-some g c =
    some_lacks (g.F.Shelf.texts c.args.shelf.now) c.args.state.now.journal c.args.class.now c.args.file.now c.args.out.now.items
    c.args.reads.now c.args.probes.now
