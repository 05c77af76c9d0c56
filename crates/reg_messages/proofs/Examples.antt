-- What the definitions give for some fields and types.
use Rattle.std.proofs.Common.{◌≡◌, ◌∷◌, [], List, ℕ, true, false, Some, refl, codes}
use Rattle.std.specs.Prelude.{Ok, Err}
use Rattle.httparse.specs.Grammar.{trim_ows}
use Rattle.reg_refusals.specs.declared.refusal.Refusal.TheVariants as refusals
use Rattle.reg_messages.specs.Fields.{told_length, asks_to_close}
use Rattle.reg_messages.specs.Types.{is_accepted}
use Rattle.reg_messages.specs.declared.field.HeaderField.{HeaderField}

field : List ℕ → List ℕ → HeaderField
field name value = record { name = name; value = value }

two_lengths : told_length (field (codes "Content-Length") (codes "2") ∷ field (codes "content-length") (codes "2") ∷ [])
    ≡ Err refusals.BadRequest
unfolding field
two_lengths = refl

a_length_past_the_limit : told_length (field (codes "Content-Length") (codes "1048577") ∷ []) ≡ Err refusals.PayloadTooLarge
unfolding field
a_length_past_the_limit = refl

leading_zeros : told_length (field (codes "Content-Length") (codes "0000000000000000007") ∷ []) ≡ Ok (Some 7)
unfolding field
leading_zeros = refl

closes_in_a_list : asks_to_close (field (codes "CONNECTION") (codes "keep-alive , Close") ∷ []) ≡ true
unfolding field trim_ows
closes_in_a_list = refl

a_type_with_parameters : is_accepted (codes "Application/JSON ; charset=utf-8") ≡ true
unfolding trim_ows
a_type_with_parameters = refl

an_empty_type : is_accepted [] ≡ false
unfolding trim_ows
an_empty_type = refl
