use Rattle.std.proofs.Common.{subst, sym}
use Rattle.command_text.specs.Shape.{IsPrintable}
use Rattle.command_text.specs.Tree.{command_view}
use Rattle.kept_indexes.specs.Making.{holding}
use Rattle.session.specs.Carried.{CarriesOut, moment}
use Rattle.session.proofs.IndexedLemmas.{index_carries, index_right, range_carries, reach, wide}
use Rattle.session.proofs.indexing.on_indexes.Goals as goal

pub returns-in-Index-clause-indexed : goal.returns-in-Index-clause-indexed
returns-in-Index-clause-indexed g c =
    index_right c.args.state.now.journal c.args.state.now.database c.requires.state.keeps c.args.state.now.indexes c.add.new.self
    c.add.result c.add.ensures.right c.add.ensures.err c.requires.indexed

pub returns-in-Index-clause-carries : goal.returns-in-Index-clause-carries
returns-in-Index-clause-carries g c = λ probes.
    subst (λ command. CarriesOut (command_view command)
    (moment (holding c.args.state.now.journal c.args.state.now.indexes) c.args.out.now.items c.args.reads.now probes)
    (moment (holding c.args.state.now.journal c.add.new.self) c.add.new.out.items c.args.reads.now probes) c.add.result) (sym c.in-Index.is)
    (index_carries c.args.state.now.journal c.args.state.now.database c.requires.state.keeps c.args.state.now.indexes c.add.new.self
    c.in-Index.class c.in-Index.attr c.in-Index.width c.args.out.now.items c.add.new.out.items c.args.reads.now probes
    c.add.result c.add.ensures.made c.add.ensures.entries c.add.ensures.stopped c.add.ensures.err c.add.ensures.same)

pub returns-in-Range-clause-carries : goal.returns-in-Range-clause-carries
returns-in-Range-clause-carries g c = λ probes.
    subst (λ command. CarriesOut (command_view command)
    (moment (holding c.args.state.now.journal c.args.state.now.indexes) c.args.out.now.items c.args.reads.now probes)
    (moment (holding c.args.state.now.journal c.range.new.self) c.range.new.out.items c.range.new.reads probes) c.range.result) (sym c.in-Range.is)
    (range_carries c.args.state.now.journal c.args.state.now.database c.requires.state.keeps c.args.state.now.indexes c.range.new.self
    c.in-Range.span c.in-Range.class c.in-Range.attr c.in-Range.least c.in-Range.greatest c.args.out.now.items c.range.new.out.items c.args.reads.now c.range.new.reads probes c.range.result
    c.range.ensures.entries c.range.ensures.err c.range.ensures.answered c.range.ensures.begins c.range.ensures.reads.least c.range.ensures.reads.most c.range.ensures.free)

pub add-requires-clause-wide : goal.add-requires-clause-wide
add-requires-clause-wide g c =
    wide c.in-Index.class c.in-Index.attr c.in-Index.width
    (subst (λ command. IsPrintable (command_view command)) c.in-Index.is c.requires.printable)

pub range-requires-clause-span : goal.range-requires-clause-span
range-requires-clause-span g c =
    reach c.in-Range.span c.in-Range.class c.in-Range.attr c.in-Range.least c.in-Range.greatest
    (subst (λ command. IsPrintable (command_view command)) c.in-Range.is c.requires.printable)
