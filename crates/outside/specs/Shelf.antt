-- What the calls of a shelf do to its texts, where they are told. `None` claims nothing.
use Rattle.std.specs.Prelude.{◌≡◌, ◌≢◌, ℕ, List, [], ◌∷◌, Option, Some, None, Result, MatchResult, if◌then◌else◌}
use Rattle.std.specs.Str.{bytes_eq}
use Rattle.outside.specs.declared.fault.OutFail.{OutFail}
use Rattle.outside.specs.declared.fault.OutFail.TheVariants.{Failed, NoMemory}

-- the text under each name, or none
abbrev pub Texts : Type 0
Texts = List ℕ → Option (List ℕ)

-- the same with this text under this name
abbrev pub texts_with : Texts → List ℕ → List ℕ → Texts
texts_with texts name text = λ other. if bytes_eq other name then Some text else texts other

-- the same texts but for the one under this name, which may be any or gone
abbrev pub SameButAt : List ℕ → Texts → Texts → Type 0
SameButAt name old new = (other : List ℕ) → other ≢ name → new other ≡ old other

-- this is what lies under the name
abbrev pub Finds : Option Texts → List ℕ → Option (List ℕ) → Type 0
Finds told name found = (texts : Texts) → told ≡ Some texts → found ≡ texts name

-- what a store leaves after a failure: unknown texts under the name after a failure of the outside, and else what was there
abbrev pub FailedStore : Option Texts → Texts → List ℕ → OutFail → Type 0
FailedStore new texts name Failed = (left : Texts) × (new ≡ Some left) × SameButAt name texts left
FailedStore new texts name NoMemory = new ≡ Some texts

-- a store puts the text under the name
abbrev pub Stores : {T : Type 0} → Option Texts → Option Texts → List ℕ → List ℕ → Result T OutFail → Type 0
Stores old new name text result = (texts : Texts) → old ≡ Some texts →
    MatchResult result (λ _. new ≡ Some (texts_with texts name text)) (FailedStore new texts name)

-- the texts that a list of names and texts holds; of two under one name the first counts
abbrev pub texts_of : List (List ℕ × List ℕ) → Texts
texts_of [] name = None
texts_of (entry ∷ entries) name = if bytes_eq name entry.0 then Some entry.1 else texts_of entries name
