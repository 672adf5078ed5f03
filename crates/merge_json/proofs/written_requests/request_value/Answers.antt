use Rattle.merge_json.proofs.RequestsAgain.{join_request, upload_request, ask_request, download_request}
use Rattle.merge_json.proofs.written_requests.request_value.Goals as goal

pub returns-in_ok-join_value-in-Join-clause-again : goal.returns-in_ok-join_value-in-Join-clause-again
returns-in_ok-join_value-in-Join-clause-again c = join_request c.args.request.now _ c.in-Join.is c.in_ok-join_value-in-Join.ensures.again

pub returns-in_ok-upload_value-in-Upload-clause-again : goal.returns-in_ok-upload_value-in-Upload-clause-again
returns-in_ok-upload_value-in-Upload-clause-again c = upload_request c.args.request.now _ c.in-Upload.is c.in_ok-upload_value-in-Upload.ensures.again

pub returns-in_ok-ask_value-in-Ranges-clause-again : goal.returns-in_ok-ask_value-in-Ranges-clause-again
returns-in_ok-ask_value-in-Ranges-clause-again c = ask_request c.args.request.now _ c.in-Ranges.is c.in_ok-ask_value-in-Ranges.ensures.again

pub returns-in_ok-download_value-in-Download-clause-again : goal.returns-in_ok-download_value-in-Download-clause-again
returns-in_ok-download_value-in-Download-clause-again c = download_request c.args.request.now _ c.in-Download.is c.in_ok-download_value-in-Download.ensures.again
