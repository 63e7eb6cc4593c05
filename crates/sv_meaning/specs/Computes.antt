-- What is made ready for the computation of a derived store, as definitions see it.
use Rattle.std.specs.Prelude.{◌≡◌, ℕ, List}
use Rattle.sv_derived.specs.Derived.{Recipe}
use Rattle.sv_ops.specs.Answers.{Answers}
use Rattle.sv_store.specs.Stores.{Store}
use Rattle.sv_value.specs.View.{view_of}
use Rattle.sv_meaning.specs.Derived.{input_values, handed}
use Rattle.sv_meaning.specs.declared.recipes.Computation.{Computation}

-- its function is that of the recipe, and its argument what the recipe's inputs give
pub record Computes (c : Computation) (maker : ℕ) (r : Recipe) (stores : List Store) : Type 0 where
  pub owner : c.owner.number ≡ maker
  pub argument : Answers c.argument (handed r.takes_list (input_values stores r.inputs))
  pub function : view_of c.function ≡ r.function
  pub span : c.span ≡ r.span
