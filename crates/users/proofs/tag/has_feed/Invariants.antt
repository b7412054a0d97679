-- Those bytes are told of that were looked at.
use Rattle.std.proofs.Common.{◌≡◌, ◌==◌, take}
use Rattle.std.specs.List.{list_any}
use Rattle.users.proofs.tag.has_feed.Given as goal

abbrev pub invariant-bytes : goal.invariant-bytes
invariant-bytes l = list_any (λ byte. byte == 10) (take l.byte-index l.group) ≡ l.found
