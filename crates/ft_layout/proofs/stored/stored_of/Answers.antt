use Rattle.std.proofs.Common.{◌≡◌, None}
use Rattle.ft_model.specs.declared.data.Value.TheVariants as value
use Rattle.ft_layout.specs.declared.slot.Stored.TheVariants.{Plain}
use Rattle.ft_layout.proofs.WordLaws.{stored_read, stored_unread, stored_is_text}
use Rattle.ft_layout.proofs.stored.stored_of.Goals as goal

pub returns-in_ok-string_of-in-3 : goal.returns-in_ok-string_of-in-3
returns-in_ok-string_of-in-3 c =
    let sym = c.in_ok-string_of-in-3.field-0 in
    let text = (c.string_of.ensures sym).1 c.in_ok-string_of-in-3.was in
    stored_read c.args.kind c.args.payload (Plain (value.Text sym)) (record { fits = text.0; kind_is = c.in-3.is; payload_is = text.1 })

pub returns-in_err-string_of-in-3 : goal.returns-in_err-string_of-in-3
returns-in_err-string_of-in-3 c =
    stored_unread c.args.kind c.args.payload c.from_residual.result c.from_residual.ensures (λ stored is.
    let text = stored_is_text c.args.payload stored is c.in-3.is in
    let found = (c.string_of.ensures text.0).0 text.1 in
    let none : c.string_of.result ≡ None = c.in_err-string_of-in-3.was in
    cc)
