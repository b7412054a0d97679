-- The rows of formulas and queries.
use Rattle.std.specs.Prelude.{◌≡◌, ℕ, ◌+◌, ◌-◌, ◌*◌, Bool, ◌&&◌, List, length}
use Rattle.std.specs.List.{list_all}
use Rattle.tick_set.specs.Ticks.{between, within}
use Rattle.formula.specs.declared.value.Env.{Env}
use Rattle.formula.specs.Tree.{ResolvedQuery, ResolvedTree}
use Rattle.formula.specs.Value.{no_values}
use Rattle.formula.specs.Variables.{variables_of}
use Rattle.meaning.specs.Reads.{made_single, query_reads, reads}
use Rattle.meaning.specs.Satisfaction.{Interpretation, sat}
use Rattle.relation.specs.Frames.{IsIn, domain_size, frame, frame_of}
use Rattle.relation.specs.Rows.{Table, table_has}

-- the rows of what holds or not at each assignment of objects and each tick, over these variables
pub record AreRowsWhere {S : Type 0} (member : S → ℕ → Bool) (domains : List (List ℕ)) (lo hi : ℕ) (variables : List ℕ) (holds : (ℕ → ℕ) → ℕ → Bool) (r : Table S) : Type 0 where
  pub ticks : (b : ℕ → ℕ) → IsIn domains b → (t : ℕ) → table_has member r b t ≡ (within lo hi t && holds b t)
  pub vars : r.vars ≡ variables
  pub frame : frame r ≡ frame_of domains lo hi

-- those of a formula, over its variables
abbrev pub AreRowsOf : {S : Type 0} → (S → ℕ → Bool) → ((ℕ → ℕ) → Interpretation) → List (List ℕ) → ℕ → ℕ → ResolvedTree → Env → Table S → Type 0
AreRowsOf member j domains lo hi f x r = AreRowsWhere member domains lo hi (variables_of f) (λ b. sat (j b) f x hi) r

-- all objects are there and the formula holds
abbrev pub is_full : ((ℕ → ℕ) → Interpretation) → (ℕ → ℕ → Bool) → ResolvedQuery → ℕ → (ℕ → ℕ) → ℕ → Bool
is_full j present q e b t = list_all (λ v. present (b v) t) (between 0 (length q.classes)) && sat (j b) q.formula no_values e t

-- the most looks at timelines that a formula may take over the ticks of lo to hi
abbrev pub reads_upto : List (List ℕ) → ℕ → ℕ → ResolvedTree → ℕ
reads_upto domains lo hi f = reads (domain_size domains) (hi + 1 - lo) f

-- those that one key of an assignment's term may take, with these variables
abbrev pub reads_at_key : List (List ℕ) → ℕ → ℕ → List ℕ → ResolvedTree → ℕ
reads_at_key domains lo hi vars f = length vars + (hi + 1 - lo) * reads (made_single (domain_size domains) vars) (hi + 1 - lo) f

abbrev pub query_reads_upto : List (List ℕ) → ℕ → ℕ → ResolvedQuery → ℕ
query_reads_upto domains lo hi q = query_reads (domain_size domains) (hi + 1 - lo) q
