-- The sizes of a formula, and what its atoms and assignments have together, each by the fold.
use Rattle.std.specs.Prelude.{ℕ, ◌+◌, max, Bool, true, false, ◌||◌, List, [], ◌++◌, ◌≤◌, length, ◌<◌}
use Rattle.formula_shape.specs.Shape.{Shape, fold_shape}
use Rattle.formula_shape.specs.declared.limits.TheConstants.{FACTOR_LIMIT, OBJECT_LIMIT}

-- the operators, assignments and atoms, TRUE and FALSE among them
abbrev pub nodes : {A B : Type 0} → Shape A B → ℕ
nodes = fold_shape (record {
  truth = λ _. 1;
  atom = λ _. 1;
  negation = λ n. n + 1;
  later = λ n. n + 1;
  binary = λ m n. m + n + 1;
  assignment = λ _ n. n + 1;
})

-- one more than the depth of the deepest part
abbrev pub depth : {A B : Type 0} → Shape A B → ℕ
depth = fold_shape (record {
  truth = λ _. 1;
  atom = λ _. 1;
  negation = λ n. n + 1;
  later = λ n. n + 1;
  binary = λ m n. max m n + 1;
  assignment = λ _ n. n + 1;
})

-- the most assignments on one way from the root
abbrev pub nesting : {A B : Type 0} → Shape A B → ℕ
nesting = fold_shape (record {
  truth = λ _. 0;
  atom = λ _. 0;
  negation = λ n. n;
  later = λ n. n;
  binary = max;
  assignment = λ _ n. n + 1;
})

-- whether there is a NOT in it
abbrev pub has_not : {A B : Type 0} → Shape A B → Bool
has_not = fold_shape (record {
  truth = λ _. false;
  atom = λ _. false;
  negation = λ _. true;
  later = λ b. b;
  binary = λ b c. b || c;
  assignment = λ _ b. b;
})

-- whether an atom passes the test, or what an assignment binds passes the other
abbrev pub has_part : {A B : Type 0} → (A → Bool) → (B → Bool) → Shape A B → Bool
has_part in_atom in_bound = fold_shape (record {
  truth = λ _. false;
  atom = in_atom;
  negation = λ b. b;
  later = λ b. b;
  binary = λ b c. b || c;
  assignment = λ bound b. in_bound bound || b;
})

-- the largest size of an atom or of what an assignment binds, 0 where there is none
abbrev pub largest_size : {A B : Type 0} → (A → ℕ) → (B → ℕ) → Shape A B → ℕ
largest_size of_atom of_bound = fold_shape (record {
  truth = λ _. 0;
  atom = of_atom;
  negation = λ n. n;
  later = λ n. n;
  binary = max;
  assignment = λ bound n. max (of_bound bound) n;
})

-- what atoms and assignments list, in the order in which a formula is written
abbrev pub gathered : {A B R : Type 0} → (A → List R) → (B → List R) → Shape A B → List R
gathered of_atom of_bound = fold_shape (record {
  truth = λ _. [];
  atom = of_atom;
  negation = λ xs. xs;
  later = λ xs. xs;
  binary = λ xs ys. xs ++ ys;
  assignment = λ bound xs. of_bound bound ++ xs;
})

-- no more than a query has variables
abbrev pub FitInQuery : {A : Type 0} → List A → Type 0
FitInQuery xs = length xs ≤ OBJECT_LIMIT

-- fewer than a query has variables
abbrev pub OneMoreFits : {A : Type 0} → List A → Type 0
OneMoreFits xs = length xs < OBJECT_LIMIT

-- a term may have so many factors
abbrev pub AreFewFactors : {A : Type 0} → List A → Type 0
AreFewFactors factors = length factors ≤ FACTOR_LIMIT
