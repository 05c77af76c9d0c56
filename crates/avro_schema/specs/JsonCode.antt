-- Private: how JSON data is told apart, as a list of the steps that build it on a stack.
use Rattle.std.specs.Prelude.{◌≡◌, ◌⊎◌, ℕ, ℤ, List, [], ◌∷◌, Bool, Float, refl}
use Rattle.std.specs.Coded.{Coded, code_by, coded_ℕ, coded_ℤ, coded_bool, coded_list, coded×, coded⊎}
use base.Stored.{coded_unit}
use mathlib.Core.Logic.{inl, inr}
use mathlib.Core.Path.{◌∙◌, ap}
use Rattle.std.specs.Float.Ieee.{nan, inf, fin}
use Rattle.serde_json.specs.Data.{Num, unsigned, negative, float, Data, null, boolean, number, string}
use Rattle.serde_json.specs.Data.{array, object, Items, no_items, item, Members, no_members, member}

-- ---- numbers

abbrev pub FloatParts : Type 0
FloatParts = Unit {0} ⊎ (Bool ⊎ (Bool × (ℕ × ℤ)))

abbrev pub float_parts : Float → FloatParts
float_parts nan = inl tt
float_parts (inf sign) = inr (inl sign)
float_parts (fin sign mantissa exponent) = inr (inr (sign, (mantissa, exponent)))

abbrev pub of_float_parts : FloatParts → Float
of_float_parts (inl _) = nan
of_float_parts (inr (inl sign)) = inf sign
of_float_parts (inr (inr p)) = fin p.0 p.1.0 p.1.1

pub same_float : (x : Float) → of_float_parts (float_parts x) ≡ x
same_float nan = refl
same_float (inf sign) = refl
same_float (fin sign mantissa exponent) = refl

abbrev pub float_code : Coded Float
float_code = code_by FloatParts
    (coded⊎ coded_unit (coded⊎ coded_bool (coded× coded_bool (coded× coded_ℕ coded_ℤ)))) float_parts of_float_parts same_float

abbrev pub NumParts : Type 0
NumParts = ℕ ⊎ (ℤ ⊎ Float)

abbrev pub num_parts : Num → NumParts
num_parts (unsigned n) = inl n
num_parts (negative z) = inr (inl z)
num_parts (float x) = inr (inr x)

abbrev pub of_num_parts : NumParts → Num
of_num_parts (inl n) = unsigned n
of_num_parts (inr (inl z)) = negative z
of_num_parts (inr (inr x)) = float x

pub same_num : (n : Num) → of_num_parts (num_parts n) ≡ n
same_num (unsigned n) = refl
same_num (negative z) = refl
same_num (float x) = refl

abbrev pub num_code : Coded Num
num_code = code_by NumParts (coded⊎ coded_ℕ (coded⊎ coded_ℤ float_code)) num_parts of_num_parts same_num

-- ---- steps

pub data Step : Type 0 where
  put_null : Step
  put_boolean : Bool → Step
  put_number : Num → Step
  put_string : List ℕ → Step
  put_no_items : Step
  add_item : Step
  end_items : Step
  put_no_members : Step
  add_member : List ℕ → Step
  end_members : Step

abbrev pub StepParts : Type 0
StepParts = Unit {0} ⊎ (Bool ⊎ (Num ⊎ (List ℕ ⊎ (Unit {0} ⊎ (Unit {0} ⊎ (Unit {0} ⊎ (Unit {0} ⊎ (List ℕ ⊎ Unit {0}))))))))

abbrev pub step_parts : Step → StepParts
step_parts put_null = inl tt
step_parts (put_boolean b) = inr (inl b)
step_parts (put_number n) = inr (inr (inl n))
step_parts (put_string s) = inr (inr (inr (inl s)))
step_parts put_no_items = inr (inr (inr (inr (inl tt))))
step_parts add_item = inr (inr (inr (inr (inr (inl tt)))))
step_parts end_items = inr (inr (inr (inr (inr (inr (inl tt))))))
step_parts put_no_members = inr (inr (inr (inr (inr (inr (inr (inl tt)))))))
step_parts (add_member k) = inr (inr (inr (inr (inr (inr (inr (inr (inl k))))))))
step_parts end_members = inr (inr (inr (inr (inr (inr (inr (inr (inr tt))))))))

abbrev pub of_step_parts : StepParts → Step
of_step_parts (inl _) = put_null
of_step_parts (inr (inl b)) = put_boolean b
of_step_parts (inr (inr (inl n))) = put_number n
of_step_parts (inr (inr (inr (inl s)))) = put_string s
of_step_parts (inr (inr (inr (inr (inl _))))) = put_no_items
of_step_parts (inr (inr (inr (inr (inr (inl _)))))) = add_item
of_step_parts (inr (inr (inr (inr (inr (inr (inl _))))))) = end_items
of_step_parts (inr (inr (inr (inr (inr (inr (inr (inl _)))))))) = put_no_members
of_step_parts (inr (inr (inr (inr (inr (inr (inr (inr (inl k))))))))) = add_member k
of_step_parts (inr (inr (inr (inr (inr (inr (inr (inr (inr _))))))))) = end_members

pub same_step : (s : Step) → of_step_parts (step_parts s) ≡ s
same_step put_null = refl
same_step (put_boolean b) = refl
same_step (put_number n) = refl
same_step (put_string s) = refl
same_step put_no_items = refl
same_step add_item = refl
same_step end_items = refl
same_step put_no_members = refl
same_step (add_member k) = refl
same_step end_members = refl

abbrev pub step_code : Coded Step
step_code =
    code_by StepParts
    (coded⊎ coded_unit (coded⊎ coded_bool (coded⊎ num_code (coded⊎ (coded_list coded_ℕ)
    (coded⊎ coded_unit (coded⊎ coded_unit (coded⊎ coded_unit (coded⊎ coded_unit (coded⊎ (coded_list coded_ℕ) coded_unit)))))))))
    step_parts of_step_parts same_step

-- ---- the steps that build a value, before others

abbrev mutual
  pub steps : Data → List Step → List Step
  steps null k = put_null ∷ k
  steps (boolean b) k = put_boolean b ∷ k
  steps (number n) k = put_number n ∷ k
  steps (string s) k = put_string s ∷ k
  steps (array ds) k = items_steps ds (end_items ∷ k)
  steps (object ms) k = members_steps ms (end_members ∷ k)

  pub items_steps : Items → List Step → List Step
  items_steps no_items k = put_no_items ∷ k
  items_steps (item d ds) k = items_steps ds (steps d (add_item ∷ k))

  pub members_steps : Members → List Step → List Step
  members_steps no_members k = put_no_members ∷ k
  members_steps (member l d ms) k = members_steps ms (steps d (add_member l ∷ k))

-- what has been built
pub data Built : Type 0 where
  a_value : Data → Built
  some_items : Items → Built
  some_members : Members → Built

abbrev pub stepped : Step → List Built → List Built
stepped put_null st = a_value null ∷ st
stepped (put_boolean b) st = a_value (boolean b) ∷ st
stepped (put_number n) st = a_value (number n) ∷ st
stepped (put_string s) st = a_value (string s) ∷ st
stepped put_no_items st = some_items no_items ∷ st
stepped add_item (a_value d ∷ some_items ds ∷ st) = some_items (item d ds) ∷ st
stepped end_items (some_items ds ∷ st) = a_value (array ds) ∷ st
stepped put_no_members st = some_members no_members ∷ st
stepped (add_member l) (a_value d ∷ some_members ms ∷ st) = some_members (member l d ms) ∷ st
stepped end_members (some_members ms ∷ st) = a_value (object ms) ∷ st
stepped _ st = st

abbrev pub run : List Step → List Built → List Built
run [] st = st
run (s ∷ ss) st = run ss (stepped s st)

abbrev pub top : List Built → Data
top (a_value d ∷ st) = d
top _ = null

mutual
  run_steps : (d : Data) (k : List Step) (st : List Built) → run (steps d k) st ≡ run k (a_value d ∷ st)
  run_steps null k st = refl
  run_steps (boolean b) k st = refl
  run_steps (number n) k st = refl
  run_steps (string s) k st = refl
  run_steps (array ds) k st = run_items ds (end_items ∷ k) st
  run_steps (object ms) k st = run_members ms (end_members ∷ k) st

  run_items : (ds : Items) (k : List Step) (st : List Built) → run (items_steps ds k) st ≡ run k (some_items ds ∷ st)
  run_items no_items k st = refl
  run_items (item d ds) k st = run_items ds (steps d (add_item ∷ k)) st ∙ run_steps d (add_item ∷ k) (some_items ds ∷ st)

  run_members : (ms : Members) (k : List Step) (st : List Built) → run (members_steps ms k) st ≡ run k (some_members ms ∷ st)
  run_members no_members k st = refl
  run_members (member l d ms) k st = run_members ms (steps d (add_member l ∷ k)) st ∙ run_steps d (add_member l ∷ k) (some_members ms ∷ st)

abbrev pub data_steps : Data → List Step
data_steps d = steps d []

abbrev pub data_from : List Step → Data
data_from ss = top (run ss [])

pub same_data : (d : Data) → data_from (data_steps d) ≡ d
same_data d = let P : List Built → Data = top in ap P (run_steps d [] [])

abbrev pub json_code : Coded Data
json_code = code_by (List Step) (coded_list step_code) data_steps data_from same_data
