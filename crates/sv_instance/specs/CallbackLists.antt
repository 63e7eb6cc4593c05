-- Callbacks as contracts see them.
use Rattle.std.specs.Prelude.{List, refl}
use Rattle.std.specs.Coded.{Coded, code_by, coded×, coded_list}
use Rattle.sv_value.specs.Value.{Val}
use Rattle.sv_value.specs.Stored.{val_code}

-- the callbacks by when they run, and what the onMount callbacks returned
pub record Callbacks : Type 0 where
  pub mount : List Val
  pub before : List Val
  pub after : List Val
  pub destroy : List Val
  pub returned : List Val

abbrev pub callbacks_code : Coded Callbacks
callbacks_code =
    code_by (List Val × (List Val × (List Val × (List Val × List Val)))) (coded× (coded_list val_code) (coded× (coded_list val_code) (coded× (coded_list val_code) (coded× (coded_list val_code) (coded_list val_code)))))
    (λ c. (c.mount, (c.before, (c.after, (c.destroy, c.returned)))))
    (λ p. record { mount = p.0; before = p.1.0; after = p.1.1.0; destroy = p.1.1.1.0; returned = p.1.1.1.1 }) (λ _. refl)
