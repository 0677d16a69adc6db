-- The ledger of a direction in a text, seen as a plain value.
use Rattle.strm_image.specs.declared.accounts.AccountText.{AccountText}
use Rattle.strm_image.specs.Image.{Account, account_of}

abbrev pub account_now : AccountText → Account
account_now a = account_of (a.written, (a.made, a.fates))
