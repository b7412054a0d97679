use Rattle.std.proofs.Common.{refl, ap}
use Rattle.command_text.specs.Tree.{command_view}
use Rattle.session.specs.declared.sharing.Shared.{Shared}
use Rattle.session.specs.declared.state.State.{State}
use Rattle.session.proofs.SharingLemmas.{left_by_all}
use Rattle.session.proofs.sharing.Shared.carry_out.Goals as goal

pub returns-clause-others : goal.returns-clause-others
returns-clause-others g c =
    let first : Shared = record c.args.self.now { state = c.change_places.new.state } in
    let last : Shared = c.carry_out_here-carried.new.self in
    let new : Shared = record last { state = c.change_places-2.new.state } in
    left_by_all (command_view c.args.command.now) c.args.self.now first last new c.carry_out_here-carried.result
    (ap (λ (s : State). s.database) c.change_places.ensures.state) (ap (λ (s : State). s.database) c.change_places-2.ensures.state) refl
    c.carry_out_here-carried.ensures.leaves
