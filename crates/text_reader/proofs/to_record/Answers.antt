use mathlib.Core.Path.{◌≡◌}
use borrow.Author.Rules.{rules}
use lib.ListN.{length}
use Rattle.record.specs.Record.{record_size}
use Rattle.text_reader.proofs.Made.{made-refused, place-there}
use Rattle.text_reader.proofs.to_record.Goals as goal

pub line_of-requires : goal.line_of-requires
line_of-requires c six =
    let told = c.in_ok-listing.ensures in
    let read = told.listing in
    let long : length c.args.bytes.now ≡ record_size = search rules in
    place-there c.args.text.now c.args.bytes.now told.fault_value long c.write.result read.1 read.3 read.4
    c.write.ensures.result_value c.write.ensures.bytes_after read.5 c.in-Err.is six

pub returns-in-Err-clause-result_value : goal.returns-in-Err-clause-result_value
returns-in-Err-clause-result_value c =
    let told = c.in_ok-listing.ensures in
    let read = told.listing in
    let long : length c.args.bytes.now ≡ record_size = search rules in
    (made-refused c.args.text.now c.args.bytes.now told.fault_value long c.write.result read.1 read.3 read.4
    c.write.ensures.result_value c.write.ensures.bytes_after read.2 read.5 c.in-Err.is c.line_of.ensures).0
