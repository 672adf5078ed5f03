use Rattle.merge_wire.proofs.NoFault.{request_at_no_fault, response_at_no_fault}
use Rattle.merge_wire.proofs.OneFault.{one_request_fault, one_response_fault}
use Rattle.merge_wire.proofs.OneMessage.{one_request, one_response}
use Rattle.merge_wire.proofs.ResponseWritten.{response_reads_back}
use Rattle.merge_wire.proofs.WrittenLemmas.{request_reads_back}
use Rattle.merge_wire.proofs.laws.message_laws.Goals as goal

pub returns-clause-requests_read_back : goal.returns-clause-requests_read_back
returns-clause-requests_read_back c = request_reads_back

pub returns-clause-responses_read_back : goal.returns-clause-responses_read_back
returns-clause-responses_read_back c = response_reads_back

pub returns-clause-one_request : goal.returns-clause-one_request
returns-clause-one_request c = one_request

pub returns-clause-one_response : goal.returns-clause-one_response
returns-clause-one_response c = one_response

pub returns-clause-request_or_fault : goal.returns-clause-request_or_fault
returns-clause-request_or_fault c = request_at_no_fault

pub returns-clause-response_or_fault : goal.returns-clause-response_or_fault
returns-clause-response_or_fault c = response_at_no_fault

pub returns-clause-one_request_fault : goal.returns-clause-one_request_fault
returns-clause-one_request_fault c = one_request_fault

pub returns-clause-one_response_fault : goal.returns-clause-one_response_fault
returns-clause-one_response_fault c = one_response_fault
