mod Made
